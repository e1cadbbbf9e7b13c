-- What is saved reads back, in the terms of the calls alone: open the bytes that export, the converter, joining, tidying or
-- building left, with scratch enough, fetch every number, and the records, names and interpolation bytes are those of the take.
-- In every manner m of reading what is saved, and every manner n of reading it back.
use Rattle.std.specs.Prelude.{ℕ, ◌≤◌, ◌≡◌, List, length}
use Rattle.vmd_format.specs.Answer.{Answer, given}
use Rattle.vmd_format.specs.Read.{Manner}
use Rattle.vmd_format.specs.Take.{Take}
use Rattle.vmd_format.specs.Opening.{places_needed, Opening, open_file, scratch_after}
use Rattle.vmd_laws.specs.OpeningLaws.{take_opens}
use Rattle.vmd_laws.specs.FetchLaws.{Figures, own_records}
use Rattle.vmd_format.specs.Join.{join}
use Rattle.vmd_laws.specs.JoinLaws.{Fit}
use Rattle.vmd_laws.specs.SavingLaws.{Accepted, Reads}
use Rattle.vmd_reader.specs.Own.{Calls, own_calls}
use Rattle.vmd_format.specs.Parts.{take_of_parts}
use Rattle.vmd_parts.specs.Building.{Slices, Typed, parts, built_answer, built_file, build_back}
use Rattle.vmd_export.specs.Demand3.{exported, joined, Enough, export_back_in, join_back_in}
use Rattle.vmd_export.proofs.Older.{converted, OlderEnough, converted_back_in}
use Rattle.vmd_tracks.specs.Tidy.{tidy}
use Rattle.vmd_tidy.specs.Tidying as tidying

-- x is what a call left in its output: a file. Opening it with this scratch gives no refusal, and the figures of the take; and
-- each call, with that opening and the scratch as opening left it, gives the take's records and parts, and nothing past them.
pub record ReadBack (m : Manner) (x : Answer (List ℕ)) (scratch : List ℕ) (t : Take) : Type 0 where
  pub file : List ℕ
  pub is : x ≡ given file
  pub opening : Opening
  pub opened : open_file m file (length scratch) ≡ given opening
  pub figures : Figures opening t
  pub calls : Calls file opening (scratch_after m file scratch) t

-- a file that is accepted, with scratch enough: a place for each sixteen property frames of the take, or what is left of them
reads_back : (n : Manner) {x : Answer (List ℕ)} {t : Take} (scratch : List ℕ) → Reads n x t → places_needed (length t.properties) ≤ length scratch
    → ReadBack n x scratch t
reads_back n {x} {t} scratch r k =
    let o = take_opens n r.file t (length scratch) r.accepted.reads k in
    record {
      file = r.file;
      is = r.is;
      opening = o.0;
      opened = o.1;
      figures = (own_records n r.file scratch o.0 t r.accepted.reads o.1).figures;
      calls = own_calls n r.file scratch o.0 t r.accepted.reads o.1;
    }

module _ (m n : Manner) where
  pub export_reads_back : {s : List ℕ} {t : Take} (out scratch : List ℕ) → Accepted m s t → Enough t out
      → places_needed (length t.properties) ≤ length scratch → ReadBack n (exported m s out) scratch t
  export_reads_back out scratch h k = reads_back n scratch (export_back_in m n out h k)

  pub older_reads_back : {s : List ℕ} {t : Take} (out scratch : List ℕ) → Accepted m s t → length t.model ≤ 10 → OlderEnough t out
      → places_needed (length t.properties) ≤ length scratch → ReadBack n (converted m s out) scratch t
  older_reads_back out scratch h l k = reads_back n scratch (converted_back_in m h l out k n)

  pub join_reads_back : {a b : List ℕ} {t u : Take} (out scratch : List ℕ) → Accepted m a t → Accepted m b u → Fit t u → Enough (join t u) out
      → places_needed (length (join t u).properties) ≤ length scratch → ReadBack n (joined m a b out) scratch (join t u)
  join_reads_back out scratch h l f k = reads_back n scratch (join_back_in m n out h l f k)

  pub tidied_reads_back : {s : List ℕ} {t : Take} (work out scratch : List ℕ) → Accepted m s t → tidying.Enough t work out
      → places_needed (length (tidy t).properties) ≤ length scratch → ReadBack n (tidying.tidied m s work out) scratch (tidy t)
  tidied_reads_back work out scratch h k = reads_back n scratch (tidying.tidied_back_in m n work out h k)

pub build_reads_back : (n : Manner) (x : Slices) (out scratch : List ℕ) → Typed x → (k : ℕ) → built_answer x out ≡ given k
    → places_needed (length (take_of_parts (parts x)).properties) ≤ length scratch → ReadBack n (built_file x out) scratch (take_of_parts (parts x))
build_reads_back n x out scratch h k e = reads_back n scratch (build_back n x out h k e)
