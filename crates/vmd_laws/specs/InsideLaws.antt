-- What is known of a scan and of an opening: all they name lies in the file.
use Rattle.std.specs.Prelude.{ℕ, ◌+◌, ◌*◌, ◌≤◌, ◌≡◌, Bool, true, false, List, length, leb}
use Rattle.std.proofs.Common.{sym, ap, ◌∙◌, arith}
use Rattle.vmd_format.specs.Refusal.{scratch_too_short}
use Rattle.vmd_format.specs.Answer.{Answer, declined, given, and_then, unless}
use Rattle.vmd_format.specs.Read.{Step, refused, got, Manner}
use Rattle.vmd_format.specs.Take.{File, read_file}
use Rattle.vmd_format.specs.Opening.{places_needed, Scan, Opening, open_file}
use Rattle.vmd_format.specs.Fetch.{model_of}
use Rattle.vmd_laws.specs.Places.{Reaches, scan_file, opening_at, open_scan}
use Rattle.vmd_laws.specs.WalkLaws.{Passed, walk_passed}
use Rattle.vmd_laws.specs.ScanLaws.{Inside, Matches, file_agrees}
use Rattle.vmd_laws.specs.OpeningLaws.{open_by_places}

-- ---- a scan

-- what a scan says lies in the file
matched : (s model : List ℕ) (y : Step File) (z : Answer Scan) (x : Scan) → Matches s model y z → z ≡ given x → Inside s x
matched s model (refused k) (declined j) x a e = let z : ◌≡◌ {A = ℕ} 0 1 = cc in absurd (omega arith)
matched s model (refused k) (given v) x a e = absurd a
matched s model (got f r) (declined j) x a e = absurd a
matched s model (got f r) (given v) x a e = let p : v ≡ x = cc in rw p at a.1.inside

pub inside_file : (m : Manner) (s : List ℕ) (x : Scan) → scan_file m s ≡ given x → Inside s x
inside_file m s x e = matched s (model_of s) (read_file m s) (scan_file m s) x (file_agrees m s) e

-- the property frames of a scan lie in the file
module _ (s : List ℕ) (x : Scan) (h : Inside s x) where
  passed : Passed s x.properties.count x.properties.place 0 (record { next = h.next; ik_states = x.ik_states })
  passed = walk_passed s x.properties.count x.properties.place 0 _ h.walked

  pub inside_reaches : Reaches s x.properties.count x.properties.place
  inside_reaches = passed.reaches

  -- where they end
  pub inside_next : h.next ≡ x.properties.place + x.properties.count * 9 + x.ik_states * 21
  inside_next = omega (arith, passed.size)

  pub inside_ends : x.properties.place + x.properties.count * 9 + x.ik_states * 21 ≤ length s
  inside_ends = omega (arith, inside_next, passed.ends h.properties.place)

-- ---- an opening

pub opened_scan : (m : Manner) (s : List ℕ) (places : ℕ) (o : Opening) → open_file m s places ≡ given o → scan_file m s ≡ given o.scan
unfolding and_then open_scan opening_at unless
opened_scan m s places o e = go (scan_file m s) (sym (open_by_places m s places) ∙ e)
  where
    one : (x : Scan) (b : Bool) → unless b scratch_too_short (given (opening_at s x)) ≡ given o → given x ≡ given o.scan
    one x true q = let z : opening_at s x ≡ o = cc in ap (λ o. given o.scan) z
    one x false q = let z : ◌≡◌ {A = ℕ} 0 1 = cc in absurd (omega arith)

    go : (y : Answer Scan) → and_then y (open_scan s places) ≡ given o → y ≡ given o.scan
    go (declined k) q = let z : ◌≡◌ {A = ℕ} 0 1 = cc in absurd (omega arith)
    go (given x) q = one x (leb (places_needed x.properties.count) places) q

-- its IK states are no more than the file's bytes
pub opened_few : (m : Manner) (s : List ℕ) (places : ℕ) (o : Opening) → length s ≤ 65536 → open_file m s places ≡ given o → o.scan.ik_states ≤ 65536
opened_few m s places o h e =
    omega (arith, inside_ends s o.scan (inside_file m s o.scan (opened_scan m s places o e)))
