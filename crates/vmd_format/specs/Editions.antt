-- Takes of the older edition (02 e), written out: how long a header has to be, what is read, and what is written.
use Rattle.std.specs.Prelude.{ℕ, ◌≡◌, refl, Bool, ◌&&◌, List, [], ◌∷◌, ◌++◌, take, drop, replicate, T}
use Rattle.vmd_format.specs.Answer.{given}
use Rattle.vmd_format.specs.Read.{lenient}
use Rattle.vmd_format.specs.Take.{same, read_take, widened}
use Rattle.vmd_format.specs.Opening.{open_file, scratch_after}
use Rattle.vmd_format.specs.Fetch.{model_of}
use Rattle.vmd_format.specs.Join.{export_file, older_file, join_files}
use Rattle.vmd_format.specs.Computed.{computed, declines, bytes_of, text, older_text, start, older_start, u0, counting, one_each_after, one_each}

abbrev refuses : List ℕ → ℕ → Bool
refuses s n = declines (export_file lenient s) n

abbrev exports : List ℕ → List ℕ → Bool
exports s t = same (bytes_of (export_file lenient s)) t

abbrev converts : List ℕ → List ℕ → Bool
converts s t = same (bytes_of (older_file lenient s)) t

-- 29, 30, 39, 40, 43 and 44 bytes: the magic's field, the name's, the bone count, and a take without records
pub lengths : T (
    refuses (take 29 older_start) 1
    && refuses (take 30 older_start) 1
    && refuses (take 39 older_start) 1
    && refuses older_start 1
    && refuses (take 43 (older_start ++ u0)) 1
    && exports (older_start ++ u0) (start ++ replicate 24 0))
unfolding computed
lengths = tt

-- all 26 bytes are compared, and the four after them may be anything
pub magics : T (
    refuses (older_text ++ (1 ∷ 2 ∷ 3 ∷ 4 ∷ [])) 1
    && refuses (87 ∷ drop 1 older_start ++ u0) 2
    && refuses (take 24 older_text ++ (102 ∷ 0 ∷ []) ++ replicate 18 0) 2
    && refuses (take 25 older_text ++ (1 ∷ []) ++ replicate 18 0) 2
    && exports (older_text ++ (1 ∷ 2 ∷ 3 ∷ 4 ∷ []) ++ replicate 14 0) (start ++ replicate 24 0))
unfolding computed
magics = tt

-- ---- one record in each section, under a name of ten letters, with bytes after the magic

abbrev sections : List ℕ
sections = one_each_after 1 2 3 4 5 6

abbrev ten : List ℕ
ten = counting 65 10

abbrev old : List ℕ
old = older_text ++ (1 ∷ 2 ∷ 3 ∷ 4 ∷ []) ++ ten ++ sections

abbrev new : List ℕ
new = one_each (ten ++ replicate 10 0) 1 2 3 4 5 6

-- a name that fills its field ends there; the places are those in this file
pub read :
    (model_of old ≡ ten)
    × (read_take lenient old ≡ read_take lenient new)
    × (open_file lenient old 1 ≡ given (record {
      scan = record {
        bones = record { count = 1; place = 44 };
        morphs = record { count = 1; place = 159 };
        cameras = record { count = 1; place = 186 };
        lights = record { count = 1; place = 251 };
        self_shadows = record { count = 1; place = 283 };
        properties = record { count = 1; place = 296 };
        ik_states = 1;
      };
      smallest_frame = 1;
      largest_frame = 6;
    }))
    × (scratch_after lenient old (7 ∷ 8 ∷ []) ≡ 296 ∷ 8 ∷ [])
unfolding computed
read = (refl, refl, refl, refl)

-- the name's field has to be there, and no more: with 40 bytes there is a name, though no bone count, and with 39 there is none
pub name_there : (model_of (take 40 old) ≡ ten) × (model_of (take 39 old) ≡ [])
unfolding computed
name_there = (refl, refl)

-- bytes after a name's zero: widened, they stay; saved, they are gone
pub after_the_zero :
    let s = older_text ++ replicate 4 0 ++ (65 ∷ 0 ∷ counting 67 8) ++ u0 in
    (widened s ≡ text ++ replicate 4 0 ++ (65 ∷ 0 ∷ counting 67 8) ++ replicate 10 0 ++ u0)
    × (export_file lenient s ≡ given (text ++ replicate 4 0 ++ (65 ∷ replicate 19 0) ++ replicate 24 0))
unfolding computed widened
after_the_zero = (refl, refl)

-- widened, the four bytes are zero; saved and joined, it is of the newer edition
pub widens : (widened old ≡ new) × (export_file lenient old ≡ given new)
    × (join_files lenient old (start ++ u0) ≡ given new) × (join_files lenient (older_start ++ u0) new ≡ given new)
unfolding computed widened
widens = (refl, refl, refl, refl)

-- ---- the converter

-- from either edition, with zeros after the magic and the name; a name of ten bytes fits, and one of eleven does not
pub converted : T (
    converts new (older_text ++ replicate 4 0 ++ ten ++ sections)
    && converts old (older_text ++ replicate 4 0 ++ ten ++ sections)
    && converts (one_each (65 ∷ 66 ∷ 0 ∷ counting 67 17) 1 2 3 4 5 6) (older_text ++ replicate 4 0 ++ (65 ∷ 66 ∷ []) ++ replicate 8 0 ++ sections)
    && converts (older_start ++ u0) (older_start ++ replicate 24 0)
    && declines (older_file lenient (one_each (counting 65 11 ++ replicate 9 0) 1 2 3 4 5 6)) 15
    && declines (older_file lenient (take 53 (text ++ replicate 4 0 ++ counting 65 20 ++ u0))) 1
    && declines (older_file lenient (replicate 50 65)) 2)
unfolding computed
converted = tt
