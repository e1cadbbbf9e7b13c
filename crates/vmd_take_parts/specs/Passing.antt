-- Which takes the builder takes: 02 a), "provided every name, float and self-shadow mode passes the builder". Definitions only.
use Rattle.std.specs.Prelude.{ℕ, ◌≤◌, ◌≡◌, true, List, [], ◌∷◌}
use Rattle.vmd_format.specs.Records.{Bone, Morph, Camera, Light, SelfShadow, Property}
use Rattle.vmd_laws.specs.ReadLaws.{All}
use Rattle.vmd_format.specs.Take.{Take}
use Rattle.vmd_format.specs.Names.{good}
use Rattle.vmd_format.specs.Parts.{finite}

abbrev pub Good : List ℕ → Type 0
Good n = good n ≡ true

abbrev pub Finite : ℕ → Type 0
Finite n = finite n ≡ true

abbrev pub BoneFit : Bone → Type 0
BoneFit b = Good b.name × All Finite (b.tx ∷ b.ty ∷ b.tz ∷ b.rx ∷ b.ry ∷ b.rz ∷ b.rw ∷ [])

abbrev pub MorphFit : Morph → Type 0
MorphFit m = Good m.name × Finite m.weight

abbrev pub CameraFit : Camera → Type 0
CameraFit c = All Finite (c.distance ∷ c.px ∷ c.py ∷ c.pz ∷ c.rx ∷ c.ry ∷ c.rz ∷ [])

abbrev pub LightFit : Light → Type 0
LightFit l = All Finite (l.red ∷ l.green ∷ l.blue ∷ l.dx ∷ l.dy ∷ l.dz ∷ [])

abbrev pub SelfShadowFit : SelfShadow → Type 0
SelfShadowFit s = Finite s.distance × (s.mode ≤ 2)

abbrev pub PropertyFit : Property → Type 0
PropertyFit p = All (λ k. Good k.name) p.ik_states

-- "every name, float and self-shadow mode passes the builder"
pub record BuilderPasses (t : Take) : Type 0 where
  pub model : Good t.model
  pub bones : All BoneFit t.bones
  pub morphs : All MorphFit t.morphs
  pub cameras : All CameraFit t.cameras
  pub lights : All LightFit t.lights
  pub self_shadows : All SelfShadowFit t.self_shadows
  pub properties : All PropertyFit t.properties
