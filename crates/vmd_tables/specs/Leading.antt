-- What the work space holds on the way to a name table. Definitions only.
use Rattle.std.specs.Prelude.{ℕ, ◌+◌, ◌-◌, ◌≤◌, ◌<◌, ◌≡◌, List, length, get_or, set, drop}
use Rattle.vmd_bytes.specs.Slices.{splice}
use Rattle.vmd_keys.specs.Names.{name_in, names_in, distinct}
use Rattle.vmd_keys.specs.Heap.{Held}
use Rattle.vmd_tables.specs.Tables.{name_table, name_indices}

-- the first n places hold, for each record, one of its name that is not a later one (f tells names apart)
pub record Leads (f : ℕ → ℕ) (n : ℕ) (l : List ℕ) : Type 0 where
  pub back : (i : ℕ) → i < n → get_or l i 0 ≤ i
  pub alike : (i : ℕ) → i < n → f (get_or l i 0) ≡ f i

-- one of the first m places holds a record of this name, none later than the record
pub record Listed (f : ℕ → ℕ) (m : ℕ) (l : List ℕ) (i : ℕ) : Type 0 where
  pub p : ℕ
  pub there : p < m
  pub back : get_or l p 0 ≤ i
  pub alike : f (get_or l p 0) ≡ f i

-- the records that lead themselves are listed in the first m places of another list, and so one of each name, not a later one
pub record Lists (f : ℕ → ℕ) (n m : ℕ) (leads l : List ℕ) : Type 0 where
  pub few : m ≤ n
  pub each : (p : ℕ) → p < m → get_or l p 0 < n
  pub all : (i : ℕ) → i < n → Listed f m l i
  pub own : (i : ℕ) → i < n → get_or leads i 0 ≡ i → Held m l i

-- and a record that leads itself is the first of its name
pub record First (f : ℕ → ℕ) (n : ℕ) (l : List ℕ) : Type 0 where
  pub leads : Leads f n l
  pub first : (i j : ℕ) → i < n → get_or l i 0 ≡ i → j < i → ¬ (f j ≡ f i)

-- on the way there: the first k places of the sorted list are led by the first of their names
pub record Settling (f : ℕ → ℕ) (n m k : ℕ) (leads l : List ℕ) : Type 0 where
  pub led : Leads f n leads
  pub lists : Lists f n m leads l
  pub first : (p q : ℕ) → p < k → q ≤ p → f (get_or l q 0) ≡ f (get_or l p 0) → get_or leads (get_or l p 0) 0 ≤ get_or l q 0

-- every place from n on is as it was
pub record Beyond (n : ℕ) (before after : List ℕ) : Type 0 where
  pub long : length after ≡ length before
  pub kept : drop n after ≡ drop n before

-- the table and the indices of the first i records are written, of a table of so many names and bytes
pub record Numbered (s : List ℕ) (at size i names size_so_far : ℕ) (bytes₀ bytes ends₀ ends indices₀ indices : List ℕ) : Type 0 where
  pub names_are : names ≡ length (distinct (names_in s at size i))
  pub bytes_are : size_so_far ≡ length (name_table (names_in s at size i)).bytes
  pub in_bytes : bytes ≡ splice bytes₀ 0 (name_table (names_in s at size i)).bytes
  pub in_ends : ends ≡ splice ends₀ 0 (name_table (names_in s at size i)).ends
  pub in_indices : indices ≡ splice indices₀ 0 (name_indices (names_in s at size i))

-- Record i of a section, whose name stands at p, gets an index: the one of the record e that leads it, or, where that is itself,
-- the next, and its name is added to the table.
pub data Step (s : List ℕ) (p i e names size : ℕ) (bytes ends indices : List ℕ) (names' size' : ℕ) (bytes' ends' indices' : List ℕ) : Type 0 where
  again : e < i → names' ≡ names → size' ≡ size → bytes' ≡ bytes → ends' ≡ ends → indices' ≡ set indices i (get_or indices e 0)
      → Step s p i e names size bytes ends indices names' size' bytes' ends' indices'
  added : i ≤ e → names' ≡ names + 1 → size' ≡ size + length (name_in s p) → bytes' ≡ splice bytes size (name_in s p)
      → ends' ≡ set ends names (size + length (name_in s p)) → indices' ≡ set indices i names
      → Step s p i e names size bytes ends indices names' size' bytes' ends' indices'

-- there is room for that
pub record Fits (s : List ℕ) (p i e names size : ℕ) (bytes ends : List ℕ) : Type 0 where
  pub name : i ≤ e → names < length ends
  pub few : i ≤ e → names < 4294967296
  pub room : i ≤ e → size + length (name_in s p) ≤ length bytes
  pub short : i ≤ e → size + length (name_in s p) < 4294967296

-- The record that leads the one in place k of a list that is sorted by name and number: itself where the name of the place
-- before is another, else the one that leads that place's.
pub data Leader (f : ℕ → ℕ) (leads l : List ℕ) (k e : ℕ) : Type 0 where
  alone : ((q : ℕ) → q + 1 ≡ k → ¬ (f (get_or l q 0) ≡ f (get_or l k 0))) → e ≡ get_or l k 0 → Leader f leads l k e
  after : 0 < k → f (get_or l (k - 1) 0) ≡ f (get_or l k 0) → e ≡ get_or leads (get_or l (k - 1) 0) 0 → Leader f leads l k e
