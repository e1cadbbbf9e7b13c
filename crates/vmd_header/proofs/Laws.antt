-- Laws of a header by places: what one that is read or refused says of the model name and of the sections. Assumes nothing.
use Prim.Native.Nat.{ℕ, ◌-◌}
use mathlib.Core.Path.{◌≡◌, refl, sym, ap}
use mathlib.Core.List.{List}
use native.Mathlib.Omega.{arith}
use lib.ListN.{length}
use Rattle.vmd_format.specs.Refusal.{Refusal}
use Rattle.vmd_format.specs.Answer.{Answer, declined, given, map_answer}
use Rattle.vmd_format.specs.Fetch.{model_of}
use Rattle.vmd_laws.specs.Places.{header_place, HeaderPlaces, header_places}
use Rattle.vmd_laws.specs.ScanLaws.{Headed, headed, no_model}
use Rattle.vmd_places.specs.Parts.{file_part, Cuts, name_in}
use Rattle.vmd_places.proofs.Parts.{front_name, no_bytes, front_cuts}

module _ (s : List ℕ) where
  header_told : (x : Answer ℕ) (h : HeaderPlaces) → map_answer header_places x ≡ given h → x ≡ given h.sections × header_places h.sections ≡ h
  unfolding map_answer
  header_told (declined k) h e = let z : ◌≡◌ {A = ℕ} 0 1 = cc in absurd (omega arith)
  header_told (given at) h e = let q : header_places at ≡ h = cc in (rw (← q) refl, rw (← q) refl)

  -- a header that is read
  module _ (h : HeaderPlaces) (e : map_answer header_places (header_place s) ≡ given h) where
    pub sections_begin : header_place s ≡ given h.sections
    sections_begin = (header_told (header_place s) h e).0

    pub name_begins : h.name ≡ 30
    name_begins = sym (ap (λ h. h.name) (header_told (header_place s) h e).1)

    pub header_headed : Headed s h
    header_headed = rw (header_told (header_place s) h e).1 at (headed s h.sections sections_begin)

  -- and one that is refused
  pub header_refused : (k : Refusal) → map_answer header_places (header_place s) ≡ declined k → header_place s ≡ declined k
  unfolding map_answer
  header_refused k e = go (header_place s) e
    where
      go : (x : Answer ℕ) → map_answer header_places x ≡ declined k → x ≡ declined k
      go (declined j) q = let z : j ≡ k = cc in rw z refl
      go (given at) q = let z : ◌≡◌ {A = ℕ} 0 1 = cc in absurd (omega arith)

  pub no_part : (k : Refusal) → map_answer header_places (header_place s) ≡ declined k → record { at = 0; len = 0 } ≡ file_part 30 (length (model_of s))
  unfolding file_part
  no_part k e = rw (no_model s k (header_refused k e)) refl

  -- the model name stands where its part says
  pub model_cuts : Cuts s (file_part 30 (length (model_of s))) (model_of s)
  unfolding file_part name_in
  model_cuts = go (header_place s) refl
    where
      go : (x : Answer ℕ) → header_place s ≡ x → Cuts s (file_part 30 (length (model_of s))) (model_of s)
      go (declined k) q = rw (no_model s k q) (no_bytes s)
      go (given at) q = rw (headed s at q).named at (front_cuts (front_name (at - 30)) s 30)
