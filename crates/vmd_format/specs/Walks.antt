-- A scratch with the place of every sixteenth property frame (02 f): refusal 3's boundary, what the places hold, and walks from
-- them, through a file's own scratch and another's.
use Rattle.std.specs.Prelude.{ℕ, zero, suc, ◌≡◌, refl, Bool, true, false, ◌&&◌, List, [], ◌∷◌, ◌++◌, take, drop, T}
use Rattle.vmd_format.specs.Answer.{Answer, declined, given}
use Rattle.vmd_format.specs.Records.{IkState}
use Rattle.vmd_format.specs.Read.{lenient}
use Rattle.vmd_format.specs.Opening.{open_file, scratch_after}
use Rattle.vmd_format.specs.Fetch.{PropertyHead, fetch_property, step_property, fetch_ik_state}
use Rattle.vmd_format.specs.Computed.{computed, declines, last, start, fours, u0, u1, ik_bytes, ik_said}

-- a frame of nine bytes, one of thirty with an IK state, and what they say
abbrev plain : ℕ → List ℕ
plain k = fours (k ∷ []) ++ (255 ∷ []) ++ u0

abbrev stated : ℕ → List ℕ
stated k = fours (k ∷ []) ++ (0 ∷ []) ++ u1 ++ ik_bytes 75 88 1

abbrev plain_said : ℕ → PropertyHead
plain_said k = record { frame = k; visible = true; ik_count = 0 }

abbrev stated_said : ℕ → PropertyHead
stated_said k = record { frame = k; visible = false; ik_count = 1 }

-- n times the one and the other, 39 bytes, from frame k on
abbrev pairs : ℕ → ℕ → List ℕ
pairs zero k = []
pairs (suc n) k = plain k ++ stated (suc k) ++ pairs n (suc (suc k))

-- files with 2 n property frames, and with one more; the first stands at 74
abbrev even : ℕ → ℕ → List ℕ
even n count = start ++ u0 ++ u0 ++ u0 ++ u0 ++ u0 ++ fours (count ∷ []) ++ pairs n 0

abbrev odd : ℕ → ℕ → List ℕ
odd n count = even n count ++ plain 200

-- ---- opening

abbrev is_given : {A : Type 0} → Answer A → Bool
is_given (declined k) = false
is_given (given a) = true

-- a scratch of this many places is enough, one of this many is refused with 3
abbrev enough : List ℕ → ℕ → Bool
enough s n = is_given (open_file lenient s n)

abbrev short : List ℕ → ℕ → Bool
short s n = declines (open_file lenient s n) 3

-- "fewer than a sixteenth of the frames, rounded up": 0, 1, 16, 17, 32, 33 and 49 frames
pub places_tested : T (
    enough (even 0 0) 0
    && short (odd 0 1) 0 && enough (odd 0 1) 1
    && short (even 8 16) 0 && enough (even 8 16) 1
    && short (odd 8 17) 1 && enough (odd 8 17) 2
    && short (even 16 32) 1 && enough (even 16 32) 2
    && short (odd 16 33) 2 && enough (odd 16 33) 3
    && short (odd 24 49) 3 && enough (odd 24 49) 4)
unfolding computed
places_tested = tt

-- "1 and 2 as met, then 3": a file that is refused has its own number, also where the scratch is short
pub places_last : T (
    short (odd 8 17) 0
    && declines (open_file lenient (take 394 (odd 8 17)) 0) 1 && declines (open_file lenient (take 394 (odd 8 17)) 1) 1
    && declines (open_file lenient (87 ∷ drop 1 (odd 8 17)) 0) 2)
unfolding computed
places_last = tt

-- places 0, 1, 2 and 3 hold the positions of frames 0, 16, 32 and 48, and further places keep their contents; a short scratch
-- keeps all
pub places_written :
    (scratch_after lenient (odd 24 49) (7 ∷ 8 ∷ 9 ∷ 10 ∷ 11 ∷ []) ≡ 74 ∷ 386 ∷ 698 ∷ 1010 ∷ 11 ∷ [])
    × (scratch_after lenient (odd 16 33) (7 ∷ 8 ∷ 9 ∷ 10 ∷ []) ≡ 74 ∷ 386 ∷ 698 ∷ 10 ∷ [])
    × (scratch_after lenient (odd 16 33) (7 ∷ 8 ∷ 9 ∷ []) ≡ 74 ∷ 386 ∷ 698 ∷ [])
    × (scratch_after lenient (even 16 32) (7 ∷ 8 ∷ 9 ∷ []) ≡ 74 ∷ 386 ∷ 9 ∷ [])
    × (scratch_after lenient (even 8 16) (7 ∷ 8 ∷ []) ≡ 74 ∷ 8 ∷ [])
    × (scratch_after lenient (even 0 0) (7 ∷ []) ≡ 7 ∷ [])
    × (scratch_after lenient (odd 8 17) (7 ∷ []) ≡ 7 ∷ [])
unfolding computed
places_written = (refl, refl, refl, refl, refl, refl, refl)

-- ---- fetches through the file's own scratch

abbrev own : ℕ → Answer PropertyHead
own i = fetch_property (record { count = 33; place = 74 }) (74 ∷ 386 ∷ 698 ∷ []) i (odd 16 33)

pub own_frames :
    (own 0 ≡ given (plain_said 0)) × (own 1 ≡ given (stated_said 1)) × (own 15 ≡ given (stated_said 15)) × (own 16 ≡ given (plain_said 16))
    × (own 17 ≡ given (stated_said 17)) × (own 31 ≡ given (stated_said 31)) × (own 32 ≡ given (plain_said 200))
unfolding computed
own_frames = (refl, refl, refl, refl, refl, refl, refl)

-- ---- fetches through another file's

-- of four frames, 78 bytes, or of these bytes of them
abbrev of : List ℕ → List ℕ → ℕ → Answer PropertyHead
of s scratch i = fetch_property (record { count = 4294967295; place = 74 }) scratch i s

abbrev four : List ℕ
four = pairs 2 0

-- place i / 16, not place i; the walk begins anew at frame 16
pub place_of_sixteen :
    (of four (0 ∷ 39 ∷ []) 1 ≡ given (stated_said 1)) × (of four (0 ∷ 39 ∷ []) 2 ≡ given (plain_said 2)) × (of four (0 ∷ 39 ∷ []) 3 ≡ given (stated_said 3))
    × (of four (0 ∷ 39 ∷ []) 16 ≡ given (plain_said 2)) × (of four (0 ∷ 39 ∷ []) 17 ≡ given (stated_said 3))
unfolding computed
place_of_sixteen = (refl, refl, refl, refl, refl)

-- 15 frames are walked over, the place being that of the first of 16
pub fifteen_frames : (of (pairs 8 0) (0 ∷ []) 15 ≡ given (stated_said 15)) × T (declines (of (pairs 9 0) (0 ∷ []) 16) 4)
unfolding computed
fifteen_frames = (refl, tt)

-- the frame asked for has its nine bytes, though its IK state be cut; a frame walked over has its IK states too
pub cut_in_states : (of (take 77 four) (0 ∷ []) 3 ≡ given (stated_said 3)) × T (declines (of (take 77 four) (0 ∷ []) 4) 4 && declines (of (take 38 four) (0 ∷ []) 2) 4)
unfolding computed
cut_in_states = (refl, tt)

-- 4: a walk that ends at the file's end; nine bytes cut, of the frame asked for and of one walked over; places past the end, at
-- it and whose sum would wrap; a scratch too short for i / 16
pub walk_outside : T (
    declines (of four (0 ∷ []) 4) 4 && declines (of four (0 ∷ []) 5) 4
    && declines (of (take 17 four) (0 ∷ []) 1) 4 && declines (of (take 17 four) (0 ∷ []) 2) 4 && declines (of (take 8 four) (0 ∷ []) 0) 4
    && declines (of four (78 ∷ []) 0) 4 && declines (of four (78 ∷ []) 1) 4 && declines (of four (last ∷ []) 0) 4 && declines (of four (last ∷ []) 15) 4
    && declines (of four (0 ∷ []) 16) 4 && declines (of four [] 0) 4)
unfolding computed
walk_outside = tt

-- any number of IK states may stand there: the frame is read, and no walk or step gets over it. 256, 65,536 and 204,522,253,
-- which is 17 bytes where 32 bits hold them, are told from 0
abbrev many : List ℕ → List ℕ
many count = fours (9 ∷ []) ++ (1 ∷ []) ++ count ++ four

abbrev stops : List ℕ → Bool
stops count = declines (of (many count) (0 ∷ []) 1) 4 && declines (step_property 0 (many count)) 4

pub states_outside :
    (of (many (255 ∷ 255 ∷ 255 ∷ 255 ∷ [])) (0 ∷ []) 0 ≡ given (record { frame = 9; visible = true; ik_count = 4294967295 }))
    × T (stops (255 ∷ 255 ∷ 255 ∷ 255 ∷ []) && stops (0 ∷ 1 ∷ 0 ∷ 0 ∷ []) && stops (0 ∷ 0 ∷ 1 ∷ 0 ∷ []) && stops (13 ∷ 195 ∷ 48 ∷ 12 ∷ []))
unfolding computed
states_outside = (refl, tt)

-- the section's place is not looked at
pub place_alone : fetch_property (record { count = 1; place = 0 }) (9 ∷ []) 0 four ≡ given (stated_said 1)
unfolding computed
place_alone = refl

-- IK states go the same way
abbrev state : List ℕ → ℕ → ℕ → Answer IkState
state s i j = fetch_ik_state (record { count = 33; place = 0 }) (0 ∷ 39 ∷ []) i j s

pub state_walked :
    (state four 1 0 ≡ given (ik_said 75 true)) × (state four 17 0 ≡ given (ik_said 75 true))
    × T (declines (state four 0 0) 4 && declines (state four 1 1) 4 && declines (state (take 77 four) 3 0) 4 && declines (state four 5 0) 4 && declines (state four 32 0) 4)
unfolding computed
state_walked = (refl, refl, tt)

-- a frame that counts 256 or 65,536 of them has a first one
abbrev first_of : List ℕ → Answer IkState
first_of count = state (many count) 0 0

pub states_counted :
    (first_of (0 ∷ 1 ∷ 0 ∷ 0 ∷ []) ≡ given (record { name = []; enabled = true })) × (first_of (0 ∷ 0 ∷ 1 ∷ 0 ∷ []) ≡ given (record { name = []; enabled = true }))
unfolding computed
states_counted = (refl, refl)

-- ---- step after step

-- the frame at a place and the next place; 4 where its IK states or its nine bytes are cut, at the end, and far past it
pub stepped :
    (step_property 0 four ≡ given (record { head = plain_said 0; next = 9 }))
    × (step_property 9 four ≡ given (record { head = stated_said 1; next = 39 }))
    × (step_property 48 four ≡ given (record { head = stated_said 3; next = 78 }))
    × T (declines (step_property 48 (take 77 four)) 4 && declines (step_property 70 four) 4 && declines (step_property 78 four) 4 && declines (step_property last four) 4)
unfolding computed
stepped = (refl, refl, refl, tt)
