-- What the answers of the reader mean, with other values in every field and place, so that one out of its place shows.
use Rattle.std.specs.Prelude.{◌≡◌, ℕ, refl, true, ◌&&◌, eqb, T, Ok, Err}
use Rattle.vmd_format.specs.Refusal.{number, outside, scratch_too_short}
use Rattle.vmd_format.specs.Answer.{declined, given}
use Rattle.vmd_base.specs.Meaning.{refusal_of, answer, answer_of}
use Rattle.vmd_base.specs.declared.VmdRefusal.TheVariants.{FileEndsEarly, MagicDiffers, ScratchTooShort, Outside, PartsNotWhole, NameUnfit, NameNotGood, NotFinite, SelfShadowUnfit, ColumnsDisagree, CountTooLarge, NameIndexTooLarge, OutputTooShort, PartsDoNotFit, ModelNameTooLong, BytesOver, CountOversized, FirstAboveLast}
use Rattle.vmd_records.specs.Fields.{property_fields}
use Rattle.vmd_records.specs.declared.VmdParsedBoneFrame.{VmdParsedBoneFrame}
use Rattle.vmd_records.specs.declared.VmdParsedMorphFrame.{VmdParsedMorphFrame}
use Rattle.vmd_records.specs.declared.VmdParsedPropertyFrame.{VmdParsedPropertyFrame}
use Rattle.vmd_records.specs.declared.VmdParsedIkState.{VmdParsedIkState}
use Rattle.vmd_reader.specs.Meaning.{opening_is, step_fields}

-- the numbers of document 01's table, and those of 02 a), e), i) and j)
pub numbers : T (
    eqb (number (refusal_of FileEndsEarly)) 1
    && eqb (number (refusal_of MagicDiffers)) 2
    && eqb (number (refusal_of ScratchTooShort)) 3
    && eqb (number (refusal_of Outside)) 4
    && eqb (number (refusal_of PartsNotWhole)) 5
    && eqb (number (refusal_of NameUnfit)) 6
    && eqb (number (refusal_of NameNotGood)) 7
    && eqb (number (refusal_of NotFinite)) 8
    && eqb (number (refusal_of SelfShadowUnfit)) 9
    && eqb (number (refusal_of ColumnsDisagree)) 10
    && eqb (number (refusal_of CountTooLarge)) 11
    && eqb (number (refusal_of NameIndexTooLarge)) 12
    && eqb (number (refusal_of OutputTooShort)) 13
    && eqb (number (refusal_of PartsDoNotFit)) 14
    && eqb (number (refusal_of ModelNameTooLong)) 15
    && eqb (number (refusal_of BytesOver)) 16
    && eqb (number (refusal_of CountOversized)) 17
    && eqb (number (refusal_of FirstAboveLast)) 18)
numbers = tt

-- an opening that is given, and one that is refused
pub an_opening :
    (answer opening_is
    (Ok
    (record {
      sections = record {
        bones = record { count = 1; place = 54 };
        morphs = record { count = 2; place = 169 };
        cameras = record { count = 3; place = 265 };
        lights = record { count = 4; place = 391 };
        self_shadows = record { count = 5; place = 535 };
        properties = record { count = 6; place = 593 };
        ik_states = 7;
      };
      min_frame = 8;
      max_frame = 9;
    }))
    ≡ given (record {
      scan = record {
        bones = record { count = 1; place = 54 };
        morphs = record { count = 2; place = 169 };
        cameras = record { count = 3; place = 265 };
        lights = record { count = 4; place = 391 };
        self_shadows = record { count = 5; place = 535 };
        properties = record { count = 6; place = 593 };
        ik_states = 7;
      };
      smallest_frame = 8;
      largest_frame = 9;
    }))
    × (answer opening_is (Err ScratchTooShort) ≡ declined scratch_too_short)
an_opening = (refl, refl)

-- a record that is found is given as it is; the answers of the other kinds have the same two cases
pub answers :
    (answer_of {A = VmdParsedBoneFrame} (Err Outside) ≡ declined outside)
    × (answer_of {A = VmdParsedMorphFrame} (Ok (record { frame = 1; weight = 2 })) ≡ given (record { frame = 1; weight = 2 }))
    × (answer_of {A = VmdParsedIkState} (Err Outside) ≡ declined outside)
answers = (refl, refl, refl)

-- a property frame with the place of the next one
pub steps :
    (answer_of {A = VmdParsedPropertyFrame × ℕ} (Ok (record { frame = 1; visible = true; ik_count = 2 }, 3)) ≡ given (record { frame = 1; visible = true; ik_count = 2 }, 3))
    × (answer_of {A = VmdParsedPropertyFrame × ℕ} (Err Outside) ≡ declined outside)
    × (step_fields (record { head = record { frame = 1; visible = true; ik_count = 2 }; next = 3 }) ≡ (record { frame = 1; visible = true; ik_count = 2 }, 3))
unfolding property_fields
steps = (refl, refl, refl)
