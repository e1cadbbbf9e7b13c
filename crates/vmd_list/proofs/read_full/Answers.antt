-- `vmd_list::read_full` meets its contract: what a read gives stands after what is there already. Assumes nothing.
use Rattle.std.proofs.Common.{rules, ◌≡◌, ℕ, ◌+◌, ◌-◌, List, ◌++◌, None, Some, subst, sym, ap, ◌∙◌, append_assoc, length, take, drop, le_refl, drop_at, length-take-le}
use Rattle.std.proofs.Math.Seq.{take-add}
use Rattle.std.proofs.lemmas.List.{take-append-le}
use Rattle.std.proofs.lemmas.Slice.{take-put_mid_below}
use Rattle.std.specs.declared.option.Option.{Option}
use Rattle.std.specs.Io.KnownBytes.{Consumes}
use borrow.Rule.Slice.PartMut.{put_mid, post_of}
use Rattle.vmd_list.proofs.read_full.Goals as goal

-- two reads, one after the other
consumes_both : (a b c : Option (List ℕ)) (bs cs : List ℕ) → Consumes a b bs → Consumes b c cs → Consumes a c (bs ++ cs)
consumes_both None b c bs cs p q = tt
consumes_both (Some x) None c bs cs p q = absurd p
consumes_both (Some x) (Some y) None bs cs p q = absurd q
consumes_both (Some x) (Some y) (Some z) bs cs p q = p ∙ ap (λ l. bs ++ l) q ∙ sym (append_assoc bs cs z)

pub loop-done-preserved : goal.loop-done-preserved
loop-done-preserved g c =
    let from = c.loop-done.done in
    let n = c.in-Ok.n in
    let file = c.loop-done.file in
    let room = length file - from in
    let part = c.read.new.buf in
    let after = post_of from room file in
    let now = put_mid from room file part in
    let within = c.loop-done.invariant.0 in
    let front : take from now ≡ take from file = take-put_mid_below _ _ _ _ _ (le_refl _) within in
    let read : take n (drop from now) ≡ take n part =
    ap (take n) (drop_at (take from file) (part ++ after) from (length-take-le from file within)) ∙ take-append-le n part after c.in-Ok.ensures.bound.0 in
    let joined : take from file ++ take n part ≡ take (from + n) now =
    ap (λ l. l ++ take n part) (sym front) ∙ ap (λ l. take from now ++ l) (sym read) ∙ sym (take-add from n now) in
    (search rules, search rules, subst (Consumes _ _) joined (consumes_both _ _ _ _ _ c.loop-done.invariant.2 c.in-Ok.ensures.bytes.0))
