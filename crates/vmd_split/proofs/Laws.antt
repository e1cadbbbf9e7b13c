-- A take split by places: the steps of the code are the split. Assumes nothing.
use Prim.Native.Nat.{ℕ, ◌+◌}
use mathlib.Core.Path.{◌≡◌, ap, ap₂, sym, ◌∙◌}
use mathlib.Core.Bool.{true, false, ◌&&◌}
use mathlib.Core.List.{List, map}
use native.Mathlib.Omega.{arith}
use lib.ListN.{length, length-map, drop}
use lib.Dec.{leb}
use Rattle.vmd_format.specs.Refusal.{Refusal, parts_do_not_fit}
use Rattle.vmd_format.specs.Answer.{Answer, declined, given, and_then, map_answer, unless}
use Rattle.vmd_format.specs.Records.{bone, morph}
use Rattle.vmd_format.specs.Read.{Manner, table, write_all}
use Rattle.vmd_format.specs.Take.{Take, take_of, read_take}
use Rattle.vmd_format.specs.Opening.{Extent, Scan}
use Rattle.vmd_laws.specs.Places.{scan_file}
use Rattle.vmd_laws.specs.PlacesLaws.{section_in, frames_in, table_length}
use Rattle.vmd_laws.specs.ScanLaws.{file_in, frames_length}
use Rattle.vmd_laws.specs.ExportLaws.{take_in, take_by_places, Scanned}
use Rattle.vmd_format.specs.Parts.{Parts}
use Rattle.vmd_laws.specs.SizedLaws.{camera_sized, light_sized, self_shadow_sized, section_length}
use Rattle.vmd_keys.specs.Names.{names_in, distinct, bone_names_of, morph_names_of}
use Rattle.vmd_keys.specs.NameLaws.{bone_names, morph_names}
use Rattle.vmd_tables.specs.Tables.{joined, table_of_names, name_table, name_indices}
use Rattle.vmd_tables.proofs.TableMeaning.{table_count}
use Rattle.vmd_columns.specs.ColumnLaws.{bone_translations, bone_rotations, bone_interpolations, numbers_column_length, run_column_length}
use Rattle.vmd_take_parts.specs.Split.{translation, rotation, parts_of_take, table_within, table_fits, bones_fit, morphs_fit, records_fit, parts_fit, split, table_sizes, split_answer, parts_left, buffers, split_sizes}
use Rattle.vmd_take_parts.proofs.Given.{frames_size}
use Rattle.vmd_split.specs.Stages.{table_room, bone_room, morph_room, record_room, table_in, parts_room, bones_in, morphs_in, RecordsLeft, BonesLeft, MorphsLeft}
use Rattle.vmd_split.proofs.Room.{both}

-- ---- a scan in the place of the take

module _ {A : Type 0} (m : Manner) (s : List ℕ) (f : Take → Answer A) where
  pub by_scan : {x : Scan} → scan_file m s ≡ given x → and_then (read_take m s) f ≡ f (take_in s x)
  unfolding and_then map_answer
  by_scan e = rw (take_by_places m s, e)

  pub by_refusal : {k : Refusal} → scan_file m s ≡ declined k → and_then (read_take m s) f ≡ declined k
  unfolding and_then map_answer
  by_refusal e = rw (take_by_places m s, e)

-- ---- the tables

module _ (s : List ℕ) (x : Scan) where
  pub bone_table : name_table (bone_names_of (take_in s x)) ≡ table_in s x.bones 111
  unfolding bone_names_of take_in take_of file_in section_in
  bone_table = ap name_table (bone_names s x.bones.place x.bones.count)

  pub morph_table : name_table (morph_names_of (take_in s x)) ≡ table_in s x.morphs 23
  unfolding morph_names_of take_in take_of file_in section_in
  morph_table = ap name_table (morph_names s x.morphs.place x.morphs.count)

-- what counting gives is the size of the table
pub record Counted (s : List ℕ) (p : Extent) (size names bytes : ℕ) : Type 0 where
  pub names_are : names ≡ length (table_in s p size).ends
  pub bytes_are : bytes ≡ length (table_in s p size).bytes

pub counted : (s : List ℕ) (p : Extent) (size : ℕ) {names bytes : ℕ}
    → (names ≡ length (distinct (names_in s p.place size p.count))) × (bytes ≡ length (write_all (λ d. d) (distinct (names_in s p.place size p.count))))
    → Counted s p size names bytes
unfolding name_table table_of_names joined
counted s p size e = record { names_are = e.0 ∙ sym (table_count (names_in s p.place size p.count)); bytes_are = e.1 }

-- ---- the size call

module _ (m : Manner) (s : List ℕ) where
  pub sizes_refused : {k : Refusal} → scan_file m s ≡ declined k → declined k ≡ split_sizes m s
  unfolding split_sizes
  sizes_refused e = sym (by_refusal m s _ e)

  module _ {x : Scan} (e : scan_file m s ≡ given x) {bn bb mn mb : ℕ} (p : Counted s x.bones 111 bn bb) (q : Counted s x.morphs 23 mn mb) where
    sizes_are : split_sizes m s ≡ unless (leb bb 4294967295 && leb mb 4294967295) parts_do_not_fit (given (record { bone_names = bn; bone_name_bytes = bb; morph_names = mn; morph_name_bytes = mb }))
    unfolding split_sizes table_within table_sizes parts_of_take
    sizes_are = by_scan m s _ e ∙ rw (bone_table s x, morph_table s x, p.names_are, p.bytes_are, q.names_are, q.bytes_are)

    pub sizes_given : (leb bb 4294967295 && leb mb 4294967295) ≡ true
        → given (record { bone_names = bn; bone_name_bytes = bb; morph_names = mn; morph_name_bytes = mb }) ≡ split_sizes m s
    unfolding unless
    sizes_given h = sym (sizes_are ∙ rw h)

    pub sizes_over : (leb bb 4294967295 && leb mb 4294967295) ≡ false → declined parts_do_not_fit ≡ split_sizes m s
    unfolding unless
    sizes_over h = sym (sizes_are ∙ rw h)

-- ---- whether the parts fit

same_test : {a b : ℕ} (n : ℕ) → a ≡ b → leb a n ≡ leb b n
same_test n e = ap (λ k. leb k n) e

module _ (s : List ℕ) (x : Scan) (c : Scanned s x) (lent : Parts) where
  records_agree : records_fit (parts_of_take (take_in s x)) lent
      ≡ record_room x (length lent.cameras) (length lent.lights) (length lent.self_shadows) (length lent.properties)
  unfolding records_fit record_room parts_of_take take_in take_of file_in section_in
  records_agree =
      ap₂ ◌&&◌ (ap₂ ◌&&◌ (ap₂ ◌&&◌
      (same_test (length lent.cameras) (section_length camera_sized x.cameras.count (drop x.cameras.place s) ∙ omega arith))
      (same_test (length lent.lights) (section_length light_sized x.lights.count (drop x.lights.place s) ∙ omega arith)))
      (same_test (length lent.self_shadows) (section_length self_shadow_sized x.self_shadows.count (drop x.self_shadows.place s) ∙ omega arith)))
      (same_test (length lent.properties) (frames_size (frames_in s x.properties.count x.properties.place)
      ∙ omega (arith, frames_length s x.properties.count x.properties.place, c.ik_states)))

  bones_agree : bones_fit (parts_of_take (take_in s x)) lent
      ≡ bone_room x.bones.count (length lent.bone_name_indices) (length lent.bone_frames) (length lent.bone_translations) (length lent.bone_rotations) (length lent.bone_interpolations)
  unfolding bones_fit bone_room parts_of_take take_in take_of file_in section_in bone_names_of name_indices translation rotation
  bones_agree =
      let n = x.bones.count in
      let at = x.bones.place in
      let l = table bone n (drop at s) in
      let k : length l ≡ n = table_length bone n (drop at s) in
      ap₂ ◌&&◌ (ap₂ ◌&&◌ (ap₂ ◌&&◌ (ap₂ ◌&&◌
      (same_test (length lent.bone_name_indices) (length-map (map (λ b. b.name) l) _ ∙ length-map l _ ∙ k))
      (same_test (length lent.bone_frames) (length-map l _ ∙ k)))
      (same_test (length lent.bone_translations) (ap length (bone_translations s n at) ∙ numbers_column_length s 3 (at + 19) 111 n)))
      (same_test (length lent.bone_rotations) (ap length (bone_rotations s n at) ∙ numbers_column_length s 4 (at + 31) 111 n)))
      (same_test (length lent.bone_interpolations) (ap length (bone_interpolations s n at) ∙ run_column_length s 64 at 47 111 n (omega arith) (omega (arith, c.inside.bones.ends))))

  morphs_agree : morphs_fit (parts_of_take (take_in s x)) lent
      ≡ morph_room x.morphs.count (length lent.morph_name_indices) (length lent.morph_frames) (length lent.morph_weights)
  unfolding morphs_fit morph_room parts_of_take take_in take_of file_in section_in morph_names_of name_indices
  morphs_agree =
      let n = x.morphs.count in
      let l = table morph n (drop x.morphs.place s) in
      let k : length l ≡ n = table_length morph n (drop x.morphs.place s) in
      ap₂ ◌&&◌ (ap₂ ◌&&◌
      (same_test (length lent.morph_name_indices) (length-map (map (λ m. m.name) l) _ ∙ length-map l _ ∙ k))
      (same_test (length lent.morph_frames) (length-map l _ ∙ k)))
      (same_test (length lent.morph_weights) (length-map l _ ∙ k))

  bone_tables_agree : table_fits (parts_of_take (take_in s x)).bone_names lent.bone_names
      ≡ table_room (table_in s x.bones 111) (length lent.bone_names.bytes) (length lent.bone_names.ends)
  unfolding table_fits table_within table_room parts_of_take
  bone_tables_agree = rw (bone_table s x)

  morph_tables_agree : table_fits (parts_of_take (take_in s x)).morph_names lent.morph_names
      ≡ table_room (table_in s x.morphs 23) (length lent.morph_names.bytes) (length lent.morph_names.ends)
  unfolding table_fits table_within table_room parts_of_take
  morph_tables_agree = rw (morph_table s x)

  pub fits_agree : parts_fit (parts_of_take (take_in s x)) lent
      ≡ parts_room s x (length lent.bone_names.bytes) (length lent.bone_names.ends) (length lent.morph_names.bytes) (length lent.morph_names.ends)
      (length lent.cameras) (length lent.lights) (length lent.self_shadows) (length lent.properties)
      (length lent.bone_name_indices) (length lent.bone_frames) (length lent.bone_translations) (length lent.bone_rotations) (length lent.bone_interpolations)
      (length lent.morph_name_indices) (length lent.morph_frames) (length lent.morph_weights)
  unfolding parts_fit parts_room
  fits_agree = ap₂ ◌&&◌ (ap₂ ◌&&◌ (ap₂ ◌&&◌ (ap₂ ◌&&◌ records_agree bones_agree) morphs_agree) bone_tables_agree) morph_tables_agree

-- what it says, step by step
pub record PartsRoom (s : List ℕ) (x : Scan) (bb be mb me c l d p bi bf bt br bc mi mf mw : ℕ) : Type 0 where
  pub records : record_room x c l d p ≡ true
  pub bones : bone_room x.bones.count bi bf bt br bc ≡ true
  pub morphs : morph_room x.morphs.count mi mf mw ≡ true
  pub bone_names : table_room (table_in s x.bones 111) bb be ≡ true
  pub morph_names : table_room (table_in s x.morphs 23) mb me ≡ true

pub parts_rooms : {s : List ℕ} {x : Scan} {bb be mb me c l d p bi bf bt br bc mi mf mw : ℕ} → parts_room s x bb be mb me c l d p bi bf bt br bc mi mf mw ≡ true → PartsRoom s x bb be mb me c l d p bi bf bt br bc mi mf mw
unfolding parts_room
parts_rooms e =
    let q = both e in
    let u = both q.0 in
    let v = both u.0 in
    let w = both v.0 in
    record { records = w.0; bones = w.1; morphs = v.1; bone_names = u.1; morph_names = q.1 }

-- ---- the split, by a scan of the file

module _ (m : Manner) (s : List ℕ) (lent : Parts) where
  -- what is refused leaves the buffers as they were
  kept : {k : Refusal} → split m s lent ≡ declined k → (declined k ≡ split_answer m s lent) × (lent ≡ parts_left lent (split m s lent))
  unfolding split_answer map_answer parts_left
  kept e = (rw e, rw e)

  pub split_refused : {k : Refusal} → scan_file m s ≡ declined k → (declined k ≡ split_answer m s lent) × (lent ≡ parts_left lent (split m s lent))
  unfolding split
  split_refused e = kept (by_refusal m s _ e)

  module _ {x : Scan} (e : scan_file m s ≡ given x) (c : Scanned s x) where
    by_room : split m s lent ≡ unless (parts_fit (parts_of_take (take_in s x)) lent) parts_do_not_fit (given (parts_of_take (take_in s x)))
    unfolding split
    by_room = by_scan m s _ e

    pub split_over : parts_fit (parts_of_take (take_in s x)) lent ≡ false
        → (declined parts_do_not_fit ≡ split_answer m s lent) × (lent ≡ parts_left lent (split m s lent))
    unfolding unless
    split_over h = kept (by_room ∙ rw h)

    pub split_into : parts_fit (parts_of_take (take_in s x)) lent ≡ true → split m s lent ≡ given (parts_of_take (take_in s x))
    unfolding unless
    split_into h = by_room ∙ rw h

-- The sixteen buffers before a call that is not refused, and after it.
module _ (m : Manner) (s : List ℕ) {x : Scan} {bb₀ be₀ mb₀ me₀ c₀ l₀ d₀ p₀ bi₀ bf₀ bt₀ br₀ bc₀ mi₀ mf₀ mw₀ : List ℕ} (g : split m s (buffers bb₀ be₀ mb₀ me₀ c₀ l₀ d₀ p₀ bi₀ bf₀ bt₀ br₀ bc₀ mi₀ mf₀ mw₀) ≡ given (parts_of_take (take_in s x)))
    {c l d p : List ℕ} (w : RecordsLeft s x c₀ c l₀ l d₀ d p₀ p)
    {bn bs : ℕ} {bb be bi bf bt br bc : List ℕ} (b : BonesLeft (bones_in s x.bones) bn bs bb₀ bb be₀ be bi₀ bi bf₀ bf bt₀ bt br₀ br bc₀ bc)
    {mn ms : ℕ} {mb me mi mf mw : List ℕ} (f : MorphsLeft (morphs_in s x.morphs) mn ms mb₀ mb me₀ me mi₀ mi mf₀ mf mw₀ mw) where
  pub sizes_done : given (record { bone_names = bn; bone_name_bytes = bs; morph_names = mn; morph_name_bytes = ms }) ≡ split_answer m s (buffers bb₀ be₀ mb₀ me₀ c₀ l₀ d₀ p₀ bi₀ bf₀ bt₀ br₀ bc₀ mi₀ mf₀ mw₀)
  unfolding split_answer map_answer table_sizes parts_of_take bone_names_of morph_names_of take_in take_of file_in section_in
  sizes_done = rw (g, b.names_are, b.size_is, f.names_are, f.size_is)

  pub parts_done : buffers bb be mb me c l d p bi bf bt br bc mi mf mw ≡ parts_left (buffers bb₀ be₀ mb₀ me₀ c₀ l₀ d₀ p₀ bi₀ bf₀ bt₀ br₀ bc₀ mi₀ mf₀ mw₀) (split m s (buffers bb₀ be₀ mb₀ me₀ c₀ l₀ d₀ p₀ bi₀ bf₀ bt₀ br₀ bc₀ mi₀ mf₀ mw₀))
  unfolding parts_left parts_of_take bone_names_of morph_names_of take_in take_of file_in section_in
  parts_done = rw (
    g,
    w.cameras_are,
    w.lights_are,
    w.self_shadows_are,
    w.properties_are,
    b.bytes_are,
    b.ends_are,
    b.indices_are,
    b.frames_are,
    b.translations_are,
    b.rotations_are,
    b.interpolations_are,
    f.bytes_are,
    f.ends_are,
    f.indices_are,
    f.frames_are,
    f.weights_are,
  )
