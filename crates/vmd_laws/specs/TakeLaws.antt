-- What is written is bytes and reads back, and what is read can be written: for whole takes, in every manner of reading.
use Rattle.std.specs.Prelude.{ℕ, ◌+◌, ◌≤◌, ◌<◌, ◌^◌, ◌≡◌, refl, Bool, true, false, List, [], ◌∷◌, ◌++◌, length, drop, leb}
use Rattle.std.proofs.Common.{ap, append_assoc, append-nil, arith, le-leb, length-append, drop_at, drop-drop}
use Rattle.vmd_format.specs.Bytes.{u32_bytes, padded}
use Rattle.vmd_laws.specs.BytesLaws.{Bytes, bytes_drop, bytes_append, all_bytes, bytes_tested, Name, padded_length, padded_small, padded_back, name_fair}
use Rattle.vmd_format.specs.Layout.{number, flag, ◌⊗◌}
use Rattle.vmd_format.specs.Read.{got, bind, Codec, whole, fixed, refuse, BytesOver, ignored, turned_down, Manner, lenient, counted, optional, write_all, write_counted}
use Rattle.vmd_laws.specs.ReadLaws.{Always, always_bind, All, CodecLaws, whole_back, whole_fair, fixed_lawful, Sound, counted_small, counted_back, counted_fair, optional_back, optional_fair}
use Rattle.vmd_format.specs.Records.{Property, bone, morph, camera, light, self_shadow, ik_state, property_head}
use Rattle.vmd_laws.specs.RecordLaws.{U32, GoodBone, bone_lawful, GoodMorph, morph_lawful, GoodCamera, camera_lawful, GoodLight, light_lawful, GoodSelfShadow, self_shadow_lawful, GoodIkState, ik_state_lawful, GoodHead, head_lawful}
use Rattle.vmd_format.specs.Refusal.{file_ends_early}
use Rattle.vmd_format.specs.Answer.{Answer, declined, given}
use Rattle.vmd_format.specs.Take.{property, Take, File, take_of, magic, older_magic, Edition, newer, older, magic_of, model_width, same, edition_if, edition, model_if, magic_if, header_if, header, sections, ended, read_file, answer, read_take, write_header, write_sections, write_edition, write_take}

abbrev pub GoodProperty : Property → Type 0
GoodProperty p = U32 p.frame × (length p.ik_states < 2 ^ 32) × All GoodIkState p.ik_states

property_wide : (p : Property) → property.least ≤ length (property.write p)
unfolding property write_counted u32_bytes property_head number flag ◌⊗◌
property_wide p =
    simp length-append (omega (arith, head_lawful.wide (p.frame, p.visible)))

property_back : (p : Property) (rest : List ℕ) → GoodProperty p → property.read (property.write p ++ rest) ≡ got p rest
unfolding property bind
property_back p rest h =
    rw (
      append_assoc,
      whole_back head_lawful (p.frame, p.visible) (write_counted (fixed ik_state) p.ik_states ++ rest) (h.0, tt),
      counted_back (fixed_lawful ik_state_lawful) (refuse file_ends_early) p.ik_states rest h.1 h.2,
    )

property_fair : (s : List ℕ) → Bytes s → Always (λ p t. GoodProperty p × Bytes t) (property.read s)
unfolding property
property_fair s h =
    always_bind (λ a t. GoodHead a × Bytes t) (λ p t. GoodProperty p × Bytes t) (whole property_head s) _ (whole_fair head_lawful s h) λ a t g.
    always_bind (Sound GoodIkState) (λ p t. GoodProperty p × Bytes t) (counted (refuse file_ends_early) (fixed ik_state) t) _
    (counted_fair (fixed_lawful ik_state_lawful) (refuse file_ends_early) t g.1) λ x u k.
    ((g.0.0, k.0, k.1), k.2)

property_small : (p : Property) → GoodProperty p → Bytes (property.write p)
unfolding property
property_small p h =
    bytes_append (property_head.encode (p.frame, p.visible)) (write_counted (fixed ik_state) p.ik_states)
    (head_lawful.small (p.frame, p.visible) (h.0, tt)) (counted_small (fixed_lawful ik_state_lawful) p.ik_states h.2)

pub property_lawful : CodecLaws property GoodProperty
property_lawful = record { wide = property_wide; back = property_back; fair = property_fair; small = property_small }

pub record WellFormed (t : Take) : Type 0 where
  pub model : Name 20 t.model
  pub bones : (length t.bones < 2 ^ 32) × All GoodBone t.bones
  pub morphs : (length t.morphs < 2 ^ 32) × All GoodMorph t.morphs
  pub cameras : (length t.cameras < 2 ^ 32) × All GoodCamera t.cameras
  pub lights : (length t.lights < 2 ^ 32) × All GoodLight t.lights
  pub self_shadows : (length t.self_shadows < 2 ^ 32) × All GoodSelfShadow t.self_shadows
  pub properties : (length t.properties < 2 ^ 32) × All GoodProperty t.properties

-- what is written of a well-formed take is bytes
record Small (s : List ℕ) : Type 0 where
  small : Bytes s

infixr 60 ◌then◌
◌then◌ : {s t : List ℕ} → Small s → Small t → Small (s ++ t)
◌then◌ {s} {t} h k = record { small = bytes_append s t h.small k.small }

section_small : {A : Type 0} {C : Codec A} {Good : A → Type 0} → CodecLaws C Good → (l : List A) → (length l < 2 ^ 32) × All Good l → Small (write_counted C l)
section_small c l h = record { small = counted_small c l h.1 }

magic_small : (e : Edition) → Bytes (magic_of e)
unfolding magic_of magic older_magic all_bytes
magic_small newer = bytes_tested magic refl
magic_small older = bytes_tested older_magic refl

header_small : (e : Edition) (m : List ℕ) → Bytes m → Small (write_header e m)
unfolding write_header all_bytes
header_small e m h =
    let zeros : List ℕ = 0 ∷ 0 ∷ 0 ∷ 0 ∷ [] in
    let name = padded (model_width e) m in
    let after = bytes_append zeros name (bytes_tested zeros refl) (padded_small (model_width e) m h) in
    record { small = bytes_append (magic_of e) (zeros ++ name) (magic_small e) after }

written_small : (e : Edition) (t : Take) → WellFormed t → Small (write_edition e t)
unfolding write_edition write_sections
written_small e t w =
    header_small e t.model w.model.small
    then section_small (fixed_lawful bone_lawful) t.bones w.bones
    then section_small (fixed_lawful morph_lawful) t.morphs w.morphs
    then section_small (fixed_lawful camera_lawful) t.cameras w.cameras
    then section_small (fixed_lawful light_lawful) t.lights w.lights
    then section_small (fixed_lawful self_shadow_lawful) t.self_shadows w.self_shadows
    then section_small property_lawful t.properties w.properties

pub edition_small : (e : Edition) (t : Take) → WellFormed t → Bytes (write_edition e t)
edition_small e t w = (written_small e t w).small

pub take_small : (t : Take) → WellFormed t → Bytes (write_take t)
unfolding write_take
take_small t w = edition_small newer t w

-- the first 30 bytes of a header, and what stands after them
pub record Begun (e : Edition) (s rest : List ℕ) : Type 0 where
  pub of_edition : edition s ≡ given e
  pub after : drop 30 s ≡ rest
  pub long : length s ≡ 30 + length rest

pub begun : (e : Edition) (rest : List ℕ) → Begun e (magic_of e ++ (0 ∷ 0 ∷ 0 ∷ 0 ∷ rest)) rest
unfolding edition edition_if magic_of magic older_magic same
begun newer rest = record { of_edition = refl; after = refl; long = omega arith }
begun older rest = record { of_edition = refl; after = refl; long = omega arith }

header_back : (e : Edition) (m rest : List ℕ) → Name (model_width e) m → header (write_header e m ++ rest) ≡ got m rest
unfolding write_header header header_if magic_if model_if
header_back e m rest h =
    let w = model_width e in
    let s = magic_of e ++ (0 ∷ 0 ∷ 0 ∷ 0 ∷ (padded w m ++ rest)) in
    let b = begun e (padded w m ++ rest) in
    let l : 30 + w ≤ length s = rw (b.long, length-append, padded_length) (omega arith) in
    rw (
      append_assoc,
      le-leb 30 (length s) (omega arith),
      b.of_edition,
      le-leb (30 + w) (length s) l,
      ← drop-drop w 30 s,
      b.after,
      padded_back w m rest h,
      drop_at (padded w m) rest w (padded_length w m),
    )

-- a name of the older edition's width is one of the newer's
name_wider : (e : Edition) (m : List ℕ) → Name (model_width e) m → Name 20 m
name_wider newer m h = h
name_wider older m h = record { short = omega (arith, h.short); none_zero = h.none_zero; small = h.small }

header_fair : (s : List ℕ) → Bytes s → Always (λ m t. Name 20 m × Bytes t) (header s)
unfolding header header_if magic_if model_if
header_fair s h = one (leb 30 (length s))
  where
    three : (e : Edition) (b : Bool) → Always (λ m t. Name 20 m × Bytes t) (model_if b (model_width e) s)
    three e true = (name_wider e _ (name_fair (model_width e) (drop 30 s) (bytes_drop 30 s h)), bytes_drop (30 + model_width e) s h)
    three e false = tt

    two : (x : Answer Edition) → Always (λ m t. Name 20 m × Bytes t) (magic_if x s)
    two (given e) = three e (leb (30 + model_width e) (length s))
    two (declined k) = tt

    one : (b : Bool) → Always (λ m t. Name 20 m × Bytes t) (header_if b s)
    one true = two (edition s)
    one false = tt

-- what is read of a written take with more bytes after it: its records, each section at its place
unfoldable pub file_of : Take → List ℕ → File
file_of t rest =
    let p = write_counted property t.properties ++ rest in
    let s = write_counted (fixed self_shadow) t.self_shadows ++ p in
    let l = write_counted (fixed light) t.lights ++ s in
    let c = write_counted (fixed camera) t.cameras ++ l in
    let f = write_counted (fixed morph) t.morphs ++ c in
    record {
      model = t.model;
      bones = record { start = write_all (fixed bone).write t.bones ++ f; items = t.bones };
      morphs = record { start = write_all (fixed morph).write t.morphs ++ c; items = t.morphs };
      cameras = record { start = write_all (fixed camera).write t.cameras ++ l; items = t.cameras };
      lights = record { start = write_all (fixed light).write t.lights ++ s; items = t.lights };
      self_shadows = record { start = write_all (fixed self_shadow).write t.self_shadows ++ p; items = t.self_shadows };
      properties = record { start = write_all property.write t.properties ++ rest; items = t.properties };
    }

sections_back : (m : Manner) (t : Take) (rest : List ℕ) → WellFormed t
    → sections m t.model (write_sections t ++ rest) ≡ ended m.over (file_of t rest) rest
unfolding sections write_sections bind file_of
sections_back m t rest w =
    let p = write_counted property t.properties ++ rest in
    let s = write_counted (fixed self_shadow) t.self_shadows ++ p in
    let l = write_counted (fixed light) t.lights ++ s in
    let c = write_counted (fixed camera) t.cameras ++ l in
    let f = write_counted (fixed morph) t.morphs ++ c in
    simp append_assoc
    (rw (
      counted_back (fixed_lawful bone_lawful) (refuse file_ends_early) t.bones f w.bones.0 w.bones.1,
      optional_back (fixed_lawful morph_lawful) (refuse file_ends_early) t.morphs c w.morphs.0 w.morphs.1,
      optional_back (fixed_lawful camera_lawful) m.oversized t.cameras l w.cameras.0 w.cameras.1,
      optional_back (fixed_lawful light_lawful) m.oversized t.lights s w.lights.0 w.lights.1,
      optional_back (fixed_lawful self_shadow_lawful) m.oversized t.self_shadows p w.self_shadows.0 w.self_shadows.1,
      optional_back property_lawful (refuse file_ends_early) t.properties rest w.properties.0 w.properties.1,
    ))

-- a written take with any bytes after it is read as that take, and then the bytes over are looked at
pub file_back : (m : Manner) (e : Edition) (t : Take) (rest : List ℕ) → WellFormed t → Name (model_width e) t.model
    → read_file m (write_edition e t ++ rest) ≡ ended m.over (file_of t rest) rest
unfolding read_file write_edition bind
file_back m e t rest w n =
    rw (append_assoc, header_back e t.model (write_sections t ++ rest) n, sections_back m t rest w)

ended_nil : (o : BytesOver) (f : File) → ended o f [] ≡ got f []
unfolding ended
ended_nil ignored f = refl
ended_nil (turned_down k) f = refl

-- writing a well-formed take reads back as that take, in every manner
pub edition_back : (m : Manner) (e : Edition) (t : Take) → WellFormed t → Name (model_width e) t.model
    → read_take m (write_edition e t) ≡ given t
unfolding read_take answer take_of file_of
edition_back m e t w n = rw (← append-nil (write_edition e t), file_back m e t [] w n, ended_nil)

pub take_back : (m : Manner) (t : Take) → WellFormed t → read_take m (write_take t) ≡ given t
unfolding write_take
take_back m t w = edition_back m newer t w w.model

-- the same with any bytes after it, where they are ignored
pub take_back_over : (t : Take) (rest : List ℕ) → WellFormed t → read_take lenient (write_take t ++ rest) ≡ given t
unfolding read_take answer take_of file_of lenient ended write_take
take_back_over t rest w = ap answer (file_back lenient newer t rest w w.model)

ended_fair : (o : BytesOver) (f : File) (s : List ℕ) → WellFormed (take_of f) → Always (λ g r. WellFormed (take_of g)) (ended o f s)
unfolding ended
ended_fair ignored f s w = w
ended_fair (turned_down k) f [] w = w
ended_fair (turned_down k) f (b ∷ s) w = tt

sections_fair : (m : Manner) (name t₀ : List ℕ) → Name 20 name → Bytes t₀ → Always (λ f r. WellFormed (take_of f)) (sections m name t₀)
unfolding sections take_of
sections_fair m name t₀ n h =
    always_bind (Sound GoodBone) _ (counted (refuse file_ends_early) (fixed bone) t₀) _ (counted_fair (fixed_lawful bone_lawful) (refuse file_ends_early) t₀ h) λ b t₁ k₁.
    always_bind (Sound GoodMorph) _ (optional (counted (refuse file_ends_early) (fixed morph)) t₁) _
    (optional_fair GoodMorph _ (counted_fair (fixed_lawful morph_lawful) (refuse file_ends_early)) t₁ k₁.2) λ f t₂ k₂.
    always_bind (Sound GoodCamera) _ (optional (counted m.oversized (fixed camera)) t₂) _
    (optional_fair GoodCamera _ (counted_fair (fixed_lawful camera_lawful) m.oversized) t₂ k₂.2) λ c t₃ k₃.
    always_bind (Sound GoodLight) _ (optional (counted m.oversized (fixed light)) t₃) _
    (optional_fair GoodLight _ (counted_fair (fixed_lawful light_lawful) m.oversized) t₃ k₃.2) λ l t₄ k₄.
    always_bind (Sound GoodSelfShadow) _ (optional (counted m.oversized (fixed self_shadow)) t₄) _
    (optional_fair GoodSelfShadow _ (counted_fair (fixed_lawful self_shadow_lawful) m.oversized) t₄ k₄.2) λ d t₅ k₅.
    always_bind (Sound GoodProperty) _ (optional (counted (refuse file_ends_early) property) t₅) _
    (optional_fair GoodProperty _ (counted_fair property_lawful (refuse file_ends_early)) t₅ k₅.2) λ p t₆ k₆.
    ended_fair m.over _ t₆ (record {
      model = n;
      bones = (k₁.0, k₁.1);
      morphs = (k₂.0, k₂.1);
      cameras = (k₃.0, k₃.1);
      lights = (k₄.0, k₄.1);
      self_shadows = (k₅.0, k₅.1);
      properties = (k₆.0, k₆.1);
    })

-- what is read can be written
pub file_fair : (m : Manner) (s : List ℕ) → Bytes s → Always (λ f r. WellFormed (take_of f)) (read_file m s)
unfolding read_file
file_fair m s h = always_bind (λ n t. Name 20 n × Bytes t) _ (header s) _ (header_fair s h) λ n t k. sections_fair m n t k.0 k.1
