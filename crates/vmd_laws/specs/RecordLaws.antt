-- The laws of each record's layout.
use Rattle.std.specs.Prelude.{ℕ, ◌<◌, ◌^◌, refl, Bool}
use Rattle.vmd_laws.specs.BytesLaws.{Name, Raw}
use Rattle.vmd_laws.specs.LayoutLaws.{Lawful, number_lawful, byte_lawful, flag_lawful, inverted_lawful, name_lawful, raw_lawful, ◌⊗-lawful◌, record_lawful}
use Rattle.vmd_format.specs.Records.{Bone, Morph, Camera, Light, SelfShadow, IkState, bone, morph, camera, light, self_shadow, ik_state, property_head}

abbrev pub U32 : ℕ → Type 0
U32 n = n < 2 ^ 32

abbrev pub GoodMorph : Morph → Type 0
GoodMorph m = Name 15 m.name × (U32 m.frame × U32 m.weight)

pub morph_lawful : Lawful morph GoodMorph
unfolding morph
morph_lawful = record_lawful _ _ (λ b. refl) (λ a. refl) (name_lawful 15 ⊗-lawful number_lawful ⊗-lawful number_lawful)

abbrev pub GoodBone : Bone → Type 0
GoodBone b =
    Name 15 b.name × (U32 b.frame × (U32 b.tx × (U32 b.ty × (U32 b.tz
    × (U32 b.rx × (U32 b.ry × (U32 b.rz × (U32 b.rw × Raw 64 b.interpolation))))))))

pub bone_lawful : Lawful bone GoodBone
unfolding bone
bone_lawful =
    record_lawful _ _ (λ b. refl) (λ a. refl)
    (name_lawful 15 ⊗-lawful number_lawful ⊗-lawful number_lawful ⊗-lawful number_lawful ⊗-lawful number_lawful
    ⊗-lawful number_lawful ⊗-lawful number_lawful ⊗-lawful number_lawful ⊗-lawful number_lawful ⊗-lawful raw_lawful 64)

abbrev pub GoodCamera : Camera → Type 0
GoodCamera c =
    U32 c.frame × (U32 c.distance × (U32 c.px × (U32 c.py × (U32 c.pz
    × (U32 c.rx × (U32 c.ry × (U32 c.rz × (Raw 24 c.interpolation × (U32 c.fov × Unit {0})))))))))

pub camera_lawful : Lawful camera GoodCamera
unfolding camera
camera_lawful =
    record_lawful _ _ (λ b. refl) (λ a. refl)
    (number_lawful ⊗-lawful number_lawful ⊗-lawful number_lawful ⊗-lawful number_lawful ⊗-lawful number_lawful ⊗-lawful number_lawful
    ⊗-lawful number_lawful ⊗-lawful number_lawful ⊗-lawful raw_lawful 24 ⊗-lawful number_lawful ⊗-lawful inverted_lawful)

abbrev pub GoodLight : Light → Type 0
GoodLight l = U32 l.frame × (U32 l.red × (U32 l.green × (U32 l.blue × (U32 l.dx × (U32 l.dy × U32 l.dz)))))

pub light_lawful : Lawful light GoodLight
unfolding light
light_lawful =
    record_lawful _ _ (λ b. refl) (λ a. refl)
    (number_lawful ⊗-lawful number_lawful ⊗-lawful number_lawful ⊗-lawful number_lawful ⊗-lawful number_lawful ⊗-lawful number_lawful ⊗-lawful number_lawful)

abbrev pub GoodSelfShadow : SelfShadow → Type 0
GoodSelfShadow s = U32 s.frame × ((s.mode < 256) × U32 s.distance)

pub self_shadow_lawful : Lawful self_shadow GoodSelfShadow
unfolding self_shadow
self_shadow_lawful = record_lawful _ _ (λ b. refl) (λ a. refl) (number_lawful ⊗-lawful byte_lawful ⊗-lawful number_lawful)

abbrev pub GoodIkState : IkState → Type 0
GoodIkState k = Name 20 k.name × Unit {0}

pub ik_state_lawful : Lawful ik_state GoodIkState
unfolding ik_state
ik_state_lawful = record_lawful _ _ (λ b. refl) (λ a. refl) (name_lawful 20 ⊗-lawful flag_lawful)

abbrev pub GoodHead : ℕ × Bool → Type 0
GoodHead h = U32 h.0 × Unit {0}

pub head_lawful : Lawful property_head GoodHead
unfolding property_head
head_lawful = number_lawful ⊗-lawful flag_lawful
