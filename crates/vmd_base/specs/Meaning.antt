-- What the types of the code mean in the terms of the format, by cases. Definitions only.
use Rattle.std.specs.Prelude.{Result, Ok, Err}
use Rattle.vmd_format.specs.Answer.{Answer, declined, given}
use Rattle.vmd_format.specs.Refusal.{Refusal, file_ends_early, magic_differs, scratch_too_short, outside, parts_not_whole, name_unfit, name_not_good, not_finite, self_shadow_unfit, columns_disagree, count_too_large, name_index_too_large, output_too_short, parts_do_not_fit, model_name_too_long, bytes_over, count_oversized, first_above_last}
use Rattle.vmd_format.specs.Read.{Manner, strict, lenient}
use Rattle.vmd_format.specs.Take.{Edition, newer, older}
use Rattle.vmd_format.specs.Opening.{Extent}
use Rattle.vmd_base.specs.declared.VmdRefusal.{VmdRefusal}
use Rattle.vmd_base.specs.declared.VmdRefusal.TheVariants.{FileEndsEarly, MagicDiffers, ScratchTooShort, Outside, PartsNotWhole, NameUnfit, NameNotGood, NotFinite, SelfShadowUnfit, ColumnsDisagree, CountTooLarge, NameIndexTooLarge, OutputTooShort, PartsDoNotFit, ModelNameTooLong, BytesOver, CountOversized, FirstAboveLast}
use Rattle.vmd_base.specs.declared.VmdEdition.{VmdEdition}
use Rattle.vmd_base.specs.declared.VmdEdition.TheVariants.{Newer, Older}
use Rattle.vmd_base.specs.declared.VmdManner.{VmdManner}
use Rattle.vmd_base.specs.declared.VmdManner.TheVariants.{Strict, Lenient}
use Rattle.vmd_base.specs.declared.VmdSection.{VmdSection}

abbrev pub refusal_of : VmdRefusal → Refusal
refusal_of FileEndsEarly = file_ends_early
refusal_of MagicDiffers = magic_differs
refusal_of ScratchTooShort = scratch_too_short
refusal_of Outside = outside
refusal_of PartsNotWhole = parts_not_whole
refusal_of NameUnfit = name_unfit
refusal_of NameNotGood = name_not_good
refusal_of NotFinite = not_finite
refusal_of SelfShadowUnfit = self_shadow_unfit
refusal_of ColumnsDisagree = columns_disagree
refusal_of CountTooLarge = count_too_large
refusal_of NameIndexTooLarge = name_index_too_large
refusal_of OutputTooShort = output_too_short
refusal_of PartsDoNotFit = parts_do_not_fit
refusal_of ModelNameTooLong = model_name_too_long
refusal_of BytesOver = bytes_over
refusal_of CountOversized = count_oversized
refusal_of FirstAboveLast = first_above_last

-- what a call answers, its value in the terms of the format
abbrev pub answer : {A B : Type 0} → (A → B) → Result A VmdRefusal → Answer B
answer f (Ok a) = given (f a)
answer f (Err k) = declined (refusal_of k)

-- the same where the value is one of them
abbrev pub answer_of : {A : Type 0} → Result A VmdRefusal → Answer A
answer_of r = answer (λ a. a) r

abbrev pub edition_is : VmdEdition → Edition
edition_is Newer = newer
edition_is Older = older

abbrev pub manner_of : VmdManner → Manner
manner_of Strict = strict
manner_of Lenient = lenient

abbrev pub extent_is : VmdSection → Extent
extent_is x = record { count = x.count; place = x.place }
