-- `vmd_season::VmdSeason::with_take` meets its contract. Assumes nothing.
use mathlib.Core.Path.{sym, ap, ◌∙◌}
use Prim.Native.Nat.{ℕ, ◌+◌}
use native.Mathlib.Omega.{arith}
use borrow.Author.Tests.{leb-true, leb-false}
use Rattle.vmd_season.specs.Season.{records_of, largest_figure}
use Rattle.vmd_season.proofs.Laws.{counted, taken_whole, not_taken}
use Rattle.vmd_season.proofs.VmdSeason.with_take.Goals as goal

pub returns-in_err-bones-clause-fits : goal.returns-in_err-bones-clause-fits
returns-in_err-bones-clause-fits c =
    rw c.from_residual.ensures (not_taken _ _ λ k. omega (arith, leb-false _ _ (sym c.in_err-bones.ensures.fits), k.bones))

pub returns-in_err-morphs-clause-fits : goal.returns-in_err-morphs-clause-fits
returns-in_err-morphs-clause-fits c =
    rw c.from_residual-in_err-morphs.ensures (not_taken _ _ λ k. omega (arith, leb-false _ _ (sym c.in_err-morphs.ensures.fits), k.morphs))

pub returns-in_err-cameras-clause-fits : goal.returns-in_err-cameras-clause-fits
returns-in_err-cameras-clause-fits c =
    rw c.from_residual-in_err-cameras.ensures (not_taken _ _ λ k. omega (arith, leb-false _ _ (sym c.in_err-cameras.ensures.fits), k.cameras))

pub returns-in_err-lights-clause-fits : goal.returns-in_err-lights-clause-fits
returns-in_err-lights-clause-fits c =
    rw c.from_residual-in_err-lights.ensures (not_taken _ _ λ k. omega (arith, leb-false _ _ (sym c.in_err-lights.ensures.fits), k.lights))

pub returns-in_err-self_shadows-clause-fits : goal.returns-in_err-self_shadows-clause-fits
returns-in_err-self_shadows-clause-fits c =
    rw c.from_residual-in_err-self_shadows.ensures (not_taken _ _ λ k. omega (arith, leb-false _ _ (sym c.in_err-self_shadows.ensures.fits), k.self_shadows))

pub returns-in_err-properties-clause-fits : goal.returns-in_err-properties-clause-fits
returns-in_err-properties-clause-fits c =
    rw c.from_residual-in_err-properties.ensures (not_taken _ _ λ k. omega (arith, leb-false _ _ (sym c.in_err-properties.ensures.fits), k.properties))

pub returns-in_err-records-clause-fits : goal.returns-in_err-records-clause-fits
unfolding largest_figure records_of
returns-in_err-records-clause-fits c =
    rw c.from_residual-in_err-records.ensures (not_taken _ _ λ k. omega (arith, c.in_err-records.ensures, c.records.ensures, k.records))

pub returns-in_err-bone_names-clause-fits : goal.returns-in_err-bone_names-clause-fits
unfolding largest_figure
returns-in_err-bone_names-clause-fits c =
    rw c.from_residual-in_err-bone_names.ensures (not_taken _ _ λ k. omega (arith, c.in_err-bone_names.ensures, k.bone_names))

pub returns-in_err-morph_names-clause-fits : goal.returns-in_err-morph_names-clause-fits
unfolding largest_figure
returns-in_err-morph_names-clause-fits c =
    rw c.from_residual-in_err-morph_names.ensures (not_taken _ _ λ k. omega (arith, c.in_err-morph_names.ensures, k.morph_names))

pub returns-in_err-accepted-clause-fits : goal.returns-in_err-accepted-clause-fits
unfolding largest_figure
returns-in_err-accepted-clause-fits c =
    rw c.from_residual-in_err-accepted.ensures (not_taken _ _ λ k. omega (arith, c.in_err-accepted.ensures, k.accepted))

pub returns-clause-fits : goal.returns-clause-fits
unfolding largest_figure records_of
returns-clause-fits c =
    taken_whole _ _ (record {
      bones = leb-true _ _ (sym c.in_ok-bones.ensures.fits);
      morphs = leb-true _ _ (sym c.in_ok-morphs.ensures.fits);
      cameras = leb-true _ _ (sym c.in_ok-cameras.ensures.fits);
      lights = leb-true _ _ (sym c.in_ok-lights.ensures.fits);
      self_shadows = leb-true _ _ (sym c.in_ok-self_shadows.ensures.fits);
      properties = leb-true _ _ (sym c.in_ok-properties.ensures.fits);
      records = omega (arith, c.in_ok-records.ensures.0, c.records.ensures);
      bone_names = omega (arith, c.in_ok-bone_names.ensures.0);
      morph_names = omega (arith, c.in_ok-morph_names.ensures.0);
      accepted = omega (arith, c.in_ok-accepted.ensures.0);
    })

pub returns-clause-taken : goal.returns-clause-taken
unfolding records_of
returns-clause-taken c =
    counted _ _ c.in_ok-bones.ensures.counted c.in_ok-morphs.ensures.counted c.in_ok-cameras.ensures.counted c.in_ok-lights.ensures.counted c.in_ok-self_shadows.ensures.counted c.in_ok-properties.ensures.counted
    (c.in_ok-records.ensures.1 ∙ ap (λ (n : ℕ). c.args.self.records + n) c.records.ensures) c.in_ok-bone_names.ensures.1
    c.in_ok-morph_names.ensures.1 c.in_ok-accepted.ensures.1
