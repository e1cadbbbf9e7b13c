-- Building from the parts of an accepted file, of what the calls answer and leave in their outputs, in every manner of reading.
use Rattle.std.specs.Prelude.{ℕ, suc, ◌%◌, ◌≤◌, ◌<◌, ◌^◌, ◌≡◌, refl, List, [], ◌∷◌, map, length, Float}
use Rattle.std.proofs.Common.{ap, ◌∙◌, arith, ltb-true}
use Rattle.std.proofs.lemmas.List.{length-map}
use Rattle.std.specs.Float.{binary32}
use Rattle.std.specs.Float.Ieee.{of_bits, to_bits}
use Rattle.std.specs.Float.Ieee.Bits.{of_bits-fits, to_bits-of_bits, nan_bits_is}
use Rattle.vmd_laws.specs.BytesLaws.{Bytes, Name}
use Rattle.vmd_format.specs.Answer.{given, map_answer, fitted, left}
use Rattle.vmd_format.specs.Layout.{Layout}
use Rattle.vmd_laws.specs.LayoutLaws.{Lawful}
use Rattle.vmd_laws.specs.RecordLaws.{GoodBone, GoodMorph, camera_lawful, light_lawful, self_shadow_lawful}
use Rattle.vmd_format.specs.Read.{Manner, write_all}
use Rattle.vmd_laws.specs.ReadLaws.{All}
use Rattle.vmd_format.specs.Take.{Take, property}
use Rattle.vmd_laws.specs.TakeLaws.{GoodProperty, property_lawful, WellFormed}
use Rattle.vmd_format.specs.Join.{export_file}
use Rattle.vmd_laws.specs.SavingLaws.{Accepted, well_formed}
use Rattle.vmd_format.specs.Parts.{Parts, build}
use Rattle.vmd_laws.specs.PartsLaws.{Words, all_map}
use Rattle.vmd_bytes.proofs.Floats.{finite_below, other_pattern}
use Rattle.vmd_check_columns.specs.Meaning.{bits}
use Rattle.vmd_parts.specs.Building.{Slices, parts, built_answer, built_output, Floats, Typed}
use Rattle.vmd_export.specs.Saved.{exported_answer, exported_output}
use Rattle.vmd_keys.specs.Names.{distinct, bone_names_of, morph_names_of}
use Rattle.vmd_tables.specs.Tables.{joined, table_of_names, index_of, name_table, name_indices}
use Rattle.vmd_count.specs.DistinctLaws.{all_then, all_distinct, distinct_short}
use Rattle.vmd_tables.proofs.TableMeaning.{table_ends_below, index_most}
use Rattle.vmd_take_parts.specs.Columns.{all_of, below_write, below_map, below_all, all_write}
use Rattle.vmd_take_parts.specs.Split.{translation, rotation, parts_of_take, split, parts_left}
use Rattle.vmd_take_parts.specs.Passing.{Finite, BoneFit, BuilderPasses}
use Rattle.vmd_take_parts.proofs.Given.{with_model, fronts, split_gives, left_parts}
use Rattle.vmd_take_parts.proofs.Rebuilding.{names_fit, rebuilt}

-- ---- the builder's call

module _ (m : Manner) {s : List ℕ} {t : Take} (a : Accepted m s t) (b : BuilderPasses t) (x : Slices) (out : List ℕ) where
  -- of slices that are the parts of the file's take, the builder answers and leaves what exporting the file does, whatever the
  -- output
  pub building_exports : parts x ≡ parts_of_take t
      → (built_answer x out ≡ exported_answer m s out) × (built_output x out ≡ exported_output m s out)
  building_exports e =
      let q : build (parts x) ≡ export_file m s = ap build e ∙ (rebuilt m a).1 b in
      (ap (λ r. map_answer length (fitted (length out) r)) q, ap (λ r. left out (fitted (length out) r)) q)

  -- and so of slices that are the file's model name and what the call for parts has left at the fronts of its buffers
  pub split_exports : (lent p : Parts) → split m s lent ≡ given p → parts x ≡ with_model t.model (fronts p (parts_left lent (split m s lent)))
      → (built_answer x out ≡ exported_answer m s out) × (built_output x out ≡ exported_output m s out)
  split_exports lent p g e = building_exports (e ∙ left_parts m s t a.reads lent p g)

-- ---- there are such floats

-- a column of floats of these bits
pub record Column (l : List ℕ) : Type 0 where
  pub floats : List Float
  pub fit : Floats floats
  pub of : bits floats ≡ l

float_bits : (n : ℕ) → n < 2 ^ 32 → Finite n → to_bits binary32 (of_bits binary32 n) ≡ n
float_bits n h f =
    let low : n % 2147483648 < 2139095040 = ltb-true _ _ (finite_below n ∙ f) in
    to_bits-of_bits binary32 n h (rw (← nan_bits_is binary32 n) (other_pattern n (omega arith)))

pub column : (l : List ℕ) → Words l → All Finite l → Column l
column [] h f = record { floats = []; fit = tt; of = refl }
column (n ∷ l) h f = more (column l (λ i. h (suc i)) f.1)
  where
    more : Column l → Column (n ∷ l)
    more c = record {
      floats = of_bits binary32 n ∷ c.floats;
      fit = (of_bits-fits binary32 n, c.fit);
      of = λ i. float_bits n (h 0) f.0 i ∷ c.of i;
    }

-- ---- and such slices

-- slices of these parts, each element in the range of its type
pub record Sliced (p : Parts) : Type 0 where
  pub slices : Slices
  pub typed : Typed slices
  pub are : parts slices ≡ p

abbrev pub Word : ℕ → Type 0
Word n = n < 2 ^ 32

names_below : (l : List (List ℕ)) → All (Name 15) l → Bytes (name_table l).bytes
unfolding name_table table_of_names joined
names_below l h =
    below_write 256 (omega arith) (λ n. n) (distinct l)
    (all_then (Name 15) Bytes (λ n k. k.small) (distinct l) (all_distinct (Name 15) l h))

ends_words : (l : List (List ℕ)) → length (name_table l).bytes ≤ 4294967295 → Words (name_table l).ends
unfolding name_table
ends_words l h i = omega (arith, table_ends_below (distinct l) i, h)

indices_words : (l : List (List ℕ)) → length l < 2 ^ 32 → Words (name_indices l)
unfolding name_indices
indices_words l h =
    below_map (2 ^ 32) (omega arith) (λ n. index_of n (distinct l)) l
    (all_of (λ n. index_of n (distinct l) < 2 ^ 32) (λ n. omega (arith, index_most n (distinct l), distinct_short l, h)) l)

-- written records of a layout are bytes
records_bytes : {A : Type 0} {K : Layout A} {G : A → Type 0} → Lawful K G → (l : List A) → All G l → Bytes (write_all K.encode l)
records_bytes {K = K} {G} k l h =
    below_write 256 (omega arith) K.encode l (all_then G (λ a. Bytes (K.encode a)) k.small l h)

words_of : {A : Type 0} (G : A → Type 0) (f : A → ℕ) → ((a : A) → G a → Word (f a)) → (l : List A) → All G l → Words (map f l)
words_of G f g l h = below_map (2 ^ 32) (omega arith) f l (all_then G (λ a. Word (f a)) g l h)

-- a column of floats, so many of each record
floats_of : {A : Type 0} (w : A → List ℕ) (G P : A → Type 0) → ((a : A) → G a → All Word (w a)) → ((a : A) → P a → All Finite (w a))
    → (l : List A) → All G l → All P l → Column (write_all w l)
floats_of w G P g f l h k =
    column (write_all w l)
    (below_write (2 ^ 32) (omega arith) w l (all_then G (λ a. Words (w a)) (λ a i. below_all (2 ^ 32) (omega arith) (w a) (g a i)) l h))
    (all_write Finite w l (all_then P (λ a. All Finite (w a)) f l k))

module _ (t : Take) (w : WellFormed t) (b : BuilderPasses t) where
  translations : Column (parts_of_take t).bone_translations
  unfolding parts_of_take translation
  translations =
      floats_of translation GoodBone BoneFit (λ c h. (h.1.1.0, (h.1.1.1.0, (h.1.1.1.1.0, tt))))
      (λ c h. (h.1.0, (h.1.1.0, (h.1.1.1.0, tt)))) t.bones w.bones.1 b.bones

  rotations : Column (parts_of_take t).bone_rotations
  unfolding parts_of_take rotation
  rotations =
      floats_of rotation GoodBone BoneFit
      (λ c h. let r = h.1.1.1.1.1 in (r.0, (r.1.0, (r.1.1.0, (r.1.1.1.0, tt))))) (λ c h. h.1.1.1.1)
      t.bones w.bones.1 b.bones

  weights : Column (parts_of_take t).morph_weights
  unfolding parts_of_take
  weights =
      column (map (λ m. m.weight) t.morphs) (words_of GoodMorph (λ m. m.weight) (λ m h. h.1.1) t.morphs w.morphs.1)
      (all_map Finite (λ m. m.weight) (λ m h k. h.1) t.morphs b.morphs b.morphs)

  -- the parts of a take that passes can be handed to the builder, where no table passes its limit
  pub sliced : length (parts_of_take t).bone_names.bytes ≤ 4294967295 → length (parts_of_take t).morph_names.bytes ≤ 4294967295
      → Sliced (parts_of_take t)
  unfolding parts_of_take bone_names_of morph_names_of
  sliced nb nm =
      let p = parts_of_take t in
      let bones = bone_names_of t in
      let morphs = morph_names_of t in
      let tr = translations in
      let ro = rotations in
      let we = weights in
      record {
        slices = record {
          model = p.model;
          bone_name_bytes = p.bone_names.bytes;
          bone_name_ends = p.bone_names.ends;
          morph_name_bytes = p.morph_names.bytes;
          morph_name_ends = p.morph_names.ends;
          cameras = p.cameras;
          lights = p.lights;
          self_shadows = p.self_shadows;
          properties = p.properties;
          bone_name_indices = p.bone_name_indices;
          bone_frames = p.bone_frames;
          bone_translations = tr.floats;
          bone_rotations = ro.floats;
          bone_interpolations = p.bone_interpolations;
          morph_name_indices = p.morph_name_indices;
          morph_frames = p.morph_frames;
          morph_weights = we.floats;
        };
        typed = record {
          model = w.model.small;
          bone_name_bytes = names_below bones (names_fit (λ c. c.name) (λ c h. h.0) t.bones w.bones.1);
          bone_name_ends = ends_words bones nb;
          morph_name_bytes = names_below morphs (names_fit (λ c. c.name) (λ c h. h.0) t.morphs w.morphs.1);
          morph_name_ends = ends_words morphs nm;
          cameras = records_bytes camera_lawful t.cameras w.cameras.1;
          lights = records_bytes light_lawful t.lights w.lights.1;
          self_shadows = records_bytes self_shadow_lawful t.self_shadows w.self_shadows.1;
          properties =
              below_write 256 (omega arith) property.write t.properties
              (all_then GoodProperty (λ c. Bytes (property.write c)) property_lawful.small t.properties w.properties.1);
          bone_name_indices = indices_words bones (rw (length-map t.bones (λ c. c.name)) w.bones.0);
          bone_frames = words_of GoodBone (λ c. c.frame) (λ c h. h.1.0) t.bones w.bones.1;
          bone_translations = tr.fit;
          bone_rotations = ro.fit;
          bone_interpolations =
              below_write 256 (omega arith) (λ c. c.interpolation) t.bones
              (all_then GoodBone (λ c. Bytes c.interpolation) (λ c h. h.1.1.1.1.1.1.1.1.1.small) t.bones w.bones.1);
          morph_name_indices = indices_words morphs (rw (length-map t.morphs (λ c. c.name)) w.morphs.0);
          morph_frames = words_of GoodMorph (λ c. c.frame) (λ c h. h.1.0) t.morphs w.morphs.1;
          morph_weights = we.fit;
        };
        are = λ i. record {
          model = p.model;
          bone_names = p.bone_names;
          morph_names = p.morph_names;
          cameras = p.cameras;
          lights = p.lights;
          self_shadows = p.self_shadows;
          properties = p.properties;
          bone_name_indices = p.bone_name_indices;
          bone_frames = p.bone_frames;
          bone_translations = tr.of i;
          bone_rotations = ro.of i;
          bone_interpolations = p.bone_interpolations;
          morph_name_indices = p.morph_name_indices;
          morph_frames = p.morph_frames;
          morph_weights = we.of i;
        };
      }

-- what a call for parts gives can be handed to the builder, where every name, float and self-shadow mode passes
pub split_sliced : (m : Manner) {s : List ℕ} {t : Take} → Accepted m s t → BuilderPasses t
    → (lent p : Parts) → split m s lent ≡ given p → Sliced p
split_sliced m {s} {t} a b lent p g =
    let h = (split_gives m s t a.reads lent p).0 g in
    rw h.0 (sliced t (well_formed m a) b h.1.bone_names.within h.1.morph_names.within)
