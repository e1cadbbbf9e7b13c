-- The names of a section's records and of a take's, and the distinct ones of some names: 02 a), "distinct raw names in order of
-- first appearance"; what tells the track of a name, 02 k), which 02 b) counts and 02 g) tidies by. Definitions only.
use Rattle.std.specs.Prelude.{ℕ, ◌+◌, ◌*◌, Bool, true, false, not, List, [], ◌∷◌, map, eqb, take, drop}
use Rattle.vmd_format.specs.Bytes.{before_zero}
use Rattle.vmd_format.specs.Take.{Take, same}
use Rattle.vmd_format.specs.Parts.{upto}
use Rattle.vmd_keys.specs.declared.VmdCut.{VmdCut}
use Rattle.vmd_keys.specs.declared.VmdCut.TheVariants as cut

-- the name of the bone or morph at a place: a field of 15 bytes up to its first zero
unfoldable pub name_in : List ℕ → ℕ → List ℕ
name_in s at = before_zero (take 15 (drop at s))

-- the names of n records of one size from a place on, in file order
unfoldable pub names_in : List ℕ → ℕ → ℕ → ℕ → List (List ℕ)
names_in s at size n = map (λ i. name_in s (at + size * i)) (upto 0 n)

-- the names of a take's bones, and of its morphs, in file order
unfoldable pub bone_names_of : Take → List (List ℕ)
bone_names_of t = map (λ b. b.name) t.bones

unfoldable pub morph_names_of : Take → List (List ℕ)
morph_names_of t = map (λ m. m.name) t.morphs

-- 02 k), "Two names now belong to one track when they agree up to the first byte 0x0A, as `vmd_registration_name` cuts them":
-- a name up to its first line feed, which tells its track
unfoldable pub registered_if : Bool → ℕ → List ℕ → List ℕ
registered_if true b n = []
registered_if false b n = b ∷ n

unfoldable pub registration_name : List ℕ → List ℕ
registration_name [] = []
registration_name (b ∷ n) = registered_if (eqb b 10) b (registration_name n)

-- names as they are told apart: byte for byte, or by their tracks
abbrev pub cut_name : VmdCut → List ℕ → List ℕ
cut_name cut.Whole n = n
cut_name cut.LineFeed n = registration_name n

abbrev pub cut_names : VmdCut → List (List ℕ) → List (List ℕ)
cut_names cut.Whole l = l
cut_names cut.LineFeed l = map registration_name l

-- what tells the track of the bone or morph at a place
abbrev pub track_in : List ℕ → ℕ → List ℕ
track_in s at = registration_name (name_in s at)

-- the two ways, for contracts
abbrev pub whole : VmdCut
whole = cut.Whole

abbrev pub to_line_feed : VmdCut
to_line_feed = cut.LineFeed

-- those that pass a test, in their order
unfoldable pub keep_if : {A : Type 0} → Bool → A → List A → List A
keep_if true a l = a ∷ l
keep_if false a l = l

unfoldable pub select : {A : Type 0} → (A → Bool) → List A → List A
select f [] = []
select f (a ∷ l) = keep_if (f a) a (select f l)

-- the distinct ones, in order of first appearance
unfoldable pub distinct : List (List ℕ) → List (List ℕ)
distinct [] = []
distinct (n ∷ l) = n ∷ select (λ m. not (same n m)) (distinct l)
