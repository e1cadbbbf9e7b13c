-- What the places of a pass hold on the way. Nothing here has to be believed: the counts are stated by `distinct` alone.
-- Definitions only.
use Rattle.std.specs.Prelude.{ℕ, zero, suc, ◌+◌, ◌-◌, ◌≤◌, ◌<◌, ◌≡◌, Bool, true, false, List, [], ◌∷◌, length, get_or, ltb}
use Rattle.vmd_keys.specs.declared.VmdCut.{VmdCut}
use Rattle.vmd_keys.specs.Names.{name_in, names_in, cut_name, cut_names, distinct}
use Rattle.vmd_keys.specs.Heap.{Held}
use Rattle.vmd_keys.specs.Keys.{key_of, worth, top, spot, key}

-- the least key above a floor, and the least that a ceiling keeps out; each a record's number and 1, or 0 for none
unfoldable pub low : (ℕ → ℕ) → ℕ → ℕ
low f zero = 0
low f (suc g) = suc (f g)

unfoldable pub high : (ℕ → ℕ) → ℕ → ℕ
high f zero = top
high f (suc g) = suc (f g)

-- how many bytes the name of record i has
unfoldable pub name_length : VmdCut → List ℕ → ℕ → ℕ → ℕ → ℕ → ℕ
name_length c s at size n i = length (cut_name c (name_in s (spot at size n i)))

-- the weight of what the first k places hold
unfoldable pub sum_of : (ℕ → ℕ) → ℕ → List ℕ → ℕ
sum_of g zero b = 0
sum_of g (suc k) b = sum_of g k b + g (get_or b k 0)

-- a name's key
unfoldable pub name_key : List ℕ → ℕ
name_key d = worth (key_of d)

-- the weight of the names whose keys lie below a bound
unfoldable pub weight_if : Bool → ℕ → ℕ
weight_if true x = x
weight_if false x = 0

unfoldable pub sum_below : (List ℕ → ℕ) → (List ℕ → ℕ) → ℕ → List (List ℕ) → ℕ
sum_below v w hi [] = 0
sum_below v w hi (d ∷ l) = weight_if (ltb (v d) hi) (w d) + sum_below v w hi l

abbrev pub one : List ℕ → ℕ
one d = 1

-- a record below n whose key lies from lo on below hi
pub record Inside (f : ℕ → ℕ) (n lo hi x : ℕ) : Type 0 where
  pub small : x < n
  pub least : lo ≤ f x
  pub most : f x < hi

-- one of the first m places holds a record of this key
pub record Found (f : ℕ → ℕ) (m : ℕ) (b : List ℕ) (v : ℕ) : Type 0 where
  pub p : ℕ
  pub there : p < m
  pub is : f (get_or b p 0) ≡ v

-- the ceiling is none, or a record passed whose key lies above the floor
pub data Marked (f : ℕ → ℕ) (lo i : ℕ) : ℕ → Type 0 where
  free : Marked f lo i 0
  mark : (g : ℕ) → g < i → lo ≤ f g → Marked f lo i (suc g)

-- the first m places hold the keys of the first i records that lie above the floor and not above the ceiling, as a set
pub record Holds (f : ℕ → ℕ) (floor ceil i m : ℕ) (b : List ℕ) : Type 0 where
  pub each : (p : ℕ) → p < m → Inside f i (low f floor) (high f ceil) (get_or b p 0)
  pub all : (x : ℕ) → Inside f i (low f floor) (high f ceil) x → Found f m b (f x)
  pub marked : Marked f (low f floor) i ceil

-- the first k places hold the keys from lo on below hi of n records, each once, in their order
pub record Row (f : ℕ → ℕ) (n lo hi k : ℕ) (b : List ℕ) : Type 0 where
  pub rise : (p q : ℕ) → p < q → q < k → f (get_or b p 0) < f (get_or b q 0)
  pub each : (p : ℕ) → p < k → Inside f n lo hi (get_or b p 0)
  pub all : (x : ℕ) → Inside f n lo hi x → Found f k b (f x)

-- whether x's key is not that of the last of the first j places
pub data Fresh (f : ℕ → ℕ) (b : List ℕ) (j x : ℕ) : Bool → Type 0 where
  start : j ≡ 0 → Fresh f b j x true
  other : 0 < j → ¬ (f (get_or b (j - 1) 0) ≡ f x) → Fresh f b j x true
  again : 0 < j → f (get_or b (j - 1) 0) ≡ f x → Fresh f b j x false

unfoldable pub step_if : Bool → ℕ → ℕ
step_if true j = j + 1
step_if false j = j

-- of the first k places of l, ascending, one of each key is kept in the first j of b
pub record Firsts (f : ℕ → ℕ) (k : ℕ) (l : List ℕ) (j : ℕ) (b : List ℕ) : Type 0 where
  pub behind : j ≤ k
  pub long : length b ≡ length l
  pub ahead : (p : ℕ) → k ≤ p → get_or b p 0 ≡ get_or l p 0
  pub from : (p : ℕ) → p < j → Held k l (get_or b p 0)
  pub to : (q : ℕ) → q < k → Found f j b (f (get_or l q 0))
  pub rise : (p q : ℕ) → p < q → q < j → f (get_or b p 0) < f (get_or b q 0)
  pub last : 0 < k → (0 < j) × (f (get_or b (j - 1) 0) ≡ f (get_or l (k - 1) 0))

-- an earlier record has this key
pub record Earlier (f : ℕ → ℕ) (i : ℕ) : Type 0 where
  pub e : ℕ
  pub there : e < i
  pub is : f e ≡ f i

-- whether a record is to be taken: its key lies between floor and ceiling; or why it is not
pub data Wanted (f : ℕ → ℕ) (floor ceil i : ℕ) : Bool → Type 0 where
  wanted : low f floor ≤ f i → f i < high f ceil → Wanted f floor ceil i true
  under : f i < low f floor → Wanted f floor ceil i false
  over : ¬ (ceil ≡ 0) → f (ceil - 1) ≤ f i → Wanted f floor ceil i false
  seen : Earlier f i → Wanted f floor ceil i false

-- a weight of the distinct names of a section whose keys lie below a bound
unfoldable pub weight_below : VmdCut → List ℕ → ℕ → ℕ → ℕ → (List ℕ → ℕ) → ℕ → ℕ
weight_below c s at size n w hi = sum_below name_key w hi (distinct (cut_names c (names_in s at size n)))

-- what a pass adds: with the distinct names below its floor, those up to its ceiling
pub record Tallied (c : VmdCut) (s : List ℕ) (at size n floor ceil names bytes : ℕ) : Type 0 where
  pub names_add :
      weight_below c s at size n one (low (key c s at size n) floor) + names
      ≡ weight_below c s at size n one (high (key c s at size n) ceil)
  pub bytes_add :
      weight_below c s at size n length (low (key c s at size n) floor) + bytes
      ≡ weight_below c s at size n length (high (key c s at size n) ceil)
  pub names_few : names ≤ 32768
  pub bytes_few : bytes ≤ 491520
