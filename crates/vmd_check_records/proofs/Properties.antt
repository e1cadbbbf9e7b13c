-- Laws of property frames until the end of the bytes, for code that walks over them. Assumes nothing.
use Prim.Native.Nat.{ℕ, zero, suc, ◌+◌, ◌-◌, ◌*◌, ◌≤◌, ◌<◌}
use mathlib.Core.Path.{◌≡◌, refl, ap, sym, ◌∙◌}
use mathlib.Core.Bool.{Bool, true, false}
use mathlib.Core.List.{List, [], ◌∷◌}
use native.Mathlib.Numerals.{add-one}
use native.Mathlib.Omega.{arith}
use borrow.Author.Tests.{leb-true, leb-false}
use lib.ListN.{length, drop, length-drop, drop_of_length-le}
use lib.Dec.{leb}
use Rattle.vmd_format.specs.Bytes.{u32}
use Rattle.vmd_format.specs.Refusal.{Refusal, file_ends_early}
use Rattle.vmd_format.specs.Answer.{Answer, declined, given}
use Rattle.vmd_format.specs.Records.{Property, ik_state}
use Rattle.vmd_format.specs.Read.{Step, refused, got, Reader, bind, many, table}
use Rattle.vmd_laws.specs.ReadLaws.{Always, always_bind}
use Rattle.vmd_format.specs.Take.{property}
use Rattle.vmd_format.specs.Fetch.{next_frame}
use Rattle.vmd_laws.specs.Places.{Walk, walk, Reaches, frame_end}
use Rattle.vmd_laws.specs.PlacesLaws.{property_in, frames_in, WalkAgrees, walk_agrees, walk_done, walk_short, walk_over, walk_next}
use Rattle.vmd_laws.specs.ScanLaws.{frames_length}
use Rattle.vmd_laws.specs.WalkLaws.{next_above, reaches_first, frame_more}
use Rattle.vmd_format.specs.Parts.{Check, passes, fails, ◌next◌, each, at_end, until_end, frames, frames_or_none, properties_of, is_got, ik_check, property_check}
use Rattle.std.specs.Prelude.{Option, Some, None}
use Rattle.std.specs.Option.{is_some, unwrap_or}
use Rattle.vmd_check_records.specs.Meaning.{frames_of}
use Rattle.vmd_check_records.specs.Stages.{not_whole, whole, counted}
use Rattle.vmd_names.proofs.Checks.{chain_fails, chain_on}

-- ---- one frame

module _ (s : List ℕ) (at : ℕ) where
  walk_here : next_frame s at ≤ length s → walk s 1 at 0 ≡ given (record { next = next_frame s at; ik_states = 0 + u32 (drop (at + 5) s) })
  unfolding next_frame
  walk_here h =
      let k : ℕ = u32 (drop (at + 5) s) in
      walk_next s 1 at 0 k (omega arith) (omega arith) refl (omega arith) ∙ walk_done s (1 - 1) (at + 9 + k * 21) (0 + k) (omega arith)

  walk_not : length s < next_frame s at → walk s 1 at 0 ≡ declined file_ends_early
  unfolding next_frame
  walk_not h = go (leb (at + 9) (length s)) refl
    where
      go : (b : Bool) → leb (at + 9) (length s) ≡ b → walk s 1 at 0 ≡ declined file_ends_early
      go true e =
          let l = leb-true (at + 9) (length s) e in
          walk_over s 1 at 0 (u32 (drop (at + 5) s)) (omega arith) l refl (omega arith)
      go false e = walk_short s 1 at 0 (omega arith) (leb-false (at + 9) (length s) e)

  read_here : next_frame s at ≤ length s → property.read (drop at s) ≡ got (property_in s at) (drop (next_frame s at) s)
  unfolding many bind frames_in
  read_here h = go (property.read (drop at s)) (walk s 1 at 0) (walk_here h) (walk_agrees s 1 at 0 inside)
    where
      inside : at ≤ length s
      inside = omega (arith, h, next_above s at)

      go : (x : Step Property) (y : Answer Walk) → y ≡ given (record { next = next_frame s at; ik_states = 0 + u32 (drop (at + 5) s) })
          → WalkAgrees s 1 at 0 (bind x (λ a t. got (a ∷ []) t)) y → x ≡ got (property_in s at) (drop (next_frame s at) s)
      go (refused k) (declined j) e a = let z : ◌≡◌ {A = ℕ} 0 1 = cc in absurd (omega arith)
      go (refused k) (given w) e a = absurd a
      go (got p t) (declined j) e a = absurd a
      go (got p t) (given w) e a =
          let q : p ≡ property_in s at = cc a.frames in
          let n : w.next ≡ next_frame s at = cc in
          rw (q, a.rest, n)

  read_not : at ≤ length s → length s < next_frame s at → property.read (drop at s) ≡ refused file_ends_early
  unfolding many bind
  read_not l h = go (property.read (drop at s)) (walk s 1 at 0) (walk_not h) (walk_agrees s 1 at 0 l)
    where
      go : (x : Step Property) (y : Answer Walk) → y ≡ declined file_ends_early
          → WalkAgrees s 1 at 0 (bind x (λ a t. got (a ∷ []) t)) y → x ≡ refused file_ends_early
      go (refused k) (declined j) e a = let z : j ≡ file_ends_early = cc in rw (a, z)
      go (refused k) (given w) e a = absurd a
      go (got p t) (declined j) e a = absurd a
      go (got p t) (given w) e a = let z : ◌≡◌ {A = ℕ} 0 1 = cc in absurd (omega arith)

-- ---- frames until the end

until_nil : {A : Type 0} (r : Reader A) (n : ℕ) → until_end r n [] ≡ got [] []
unfolding until_end at_end
until_nil r zero = refl
until_nil r (suc n) = refl

until_cons : {A : Type 0} (r : Reader A) (n : ℕ) (t : List ℕ) → 0 < length t
    → until_end r (suc n) t ≡ bind (r t) (λ a u. bind (until_end r n u) (λ l v. got (a ∷ l) v))
unfolding until_end at_end
until_cons r n [] h = absurd (omega arith)
until_cons r n (b ∷ t) h = refl

module _ (s : List ℕ) where
  front : (at n : ℕ) → next_frame s at ≤ length s
      → until_end property.read (suc n) (drop at s)
      ≡ bind (until_end property.read n (drop (next_frame s at) s)) (λ l v. got (property_in s at ∷ l) v)
  unfolding bind
  front at n h =
      let t : 0 < length (drop at s) = rw length-drop (omega (arith, next_above s at)) in
      until_cons property.read n (drop at s) t ∙ rw (read_here s at h)

  until_walked : (n fuel at : ℕ) → n ≤ fuel → Reaches s n at → frame_end s n at ≡ length s
      → until_end property.read fuel (drop at s) ≡ got (frames_in s n at) []
  unfolding Reaches frame_end frames_in bind
  until_walked zero fuel at h r e = let l : length s ≤ at = omega arith in let q : drop at s ≡ [] = drop_of_length-le s l in rw q (until_nil property.read fuel)
  until_walked (suc n) zero at h r e = absurd (omega arith)
  until_walked (suc n) (suc fuel) at h r e = front at fuel r.0 ∙ rw (until_walked n fuel (next_frame s at) (omega arith) r.1 e)

  until_cut : (n fuel at : ℕ) → n < fuel → Reaches s n at → frame_end s n at < length s → length s < next_frame s (frame_end s n at)
      → until_end property.read fuel (drop at s) ≡ refused file_ends_early
  unfolding Reaches frame_end bind
  until_cut n zero at h r e l = absurd (omega arith)
  until_cut zero (suc fuel) at h r e l =
      let t : 0 < length (drop at s) = rw length-drop (omega arith) in
      until_cons property.read fuel (drop at s) t ∙ rw (read_not s at (omega arith) l)
  until_cut (suc n) (suc fuel) at h r e l = front at fuel r.0 ∙ rw (until_cut n fuel (next_frame s at) (omega arith) r.1 e l)

-- ---- a walk that counts the frames

-- n frames were passed, up to here
pub record Counting (s : List ℕ) (at n : ℕ) : Type 0 where
  pub inside : at ≤ length s
  pub reaches : Reaches s n 0
  pub here : frame_end s n 0 ≡ at
  pub few : n ≤ at

module _ {s : List ℕ} where
  pub counting_start : Counting s 0 0
  unfolding Reaches frame_end
  counting_start = record { inside = omega arith; reaches = tt; here = refl; few = omega arith }

  module _ {at n : ℕ} (g : Counting s at n) where
    counting_cut : at < length s → length s < next_frame s at → not_whole ≡ counted (frames s)
    unfolding counted frames
    counting_cut h l = rw (until_cut s n (length s) 0 (omega (arith, g.few)) g.reaches (rw g.here h) (rw g.here l))

    pub counting_short : at < length s → length s < at + 9 → not_whole ≡ counted (frames s)
    counting_short h l = counting_cut h (omega (arith, next_above s at))

    module _ {k : ℕ} (e : k ≡ u32 (drop (at + 5) s)) where
      next_is : next_frame s at ≡ at + 9 + k * 21
      unfolding next_frame
      next_is = rw e

      pub counting_over : at < length s → length s < at + 9 + k * 21 → not_whole ≡ counted (frames s)
      counting_over h l = counting_cut h (rw next_is l)

      pub counting_turn : at + 9 + k * 21 ≤ length s → Counting s (at + 9 + k * 21) (n + 1)
      counting_turn h =
          let m = frame_more s n 0 g.reaches (rw (g.here, next_is) h) in
          record {
            inside = h;
            reaches = rw add-one m.0;
            here = rw add-one (m.1 ∙ rw (g.here, next_is));
            few = omega (arith, g.few);
          }

    pub counting_end : length s ≤ at → whole n ≡ counted (frames s)
    unfolding counted frames
    counting_end h =
        rw (until_walked s n (length s) 0 (omega (arith, g.few, g.inside)) g.reaches (g.here ∙ omega (arith, g.inside)), frames_length s n 0)

-- ---- what frames until the end are

-- these frames are those from a place on, and end with the bytes
pub record Framed (s : List ℕ) (at : ℕ) (l : List Property) : Type 0 where
  pub reaches : Reaches s (length l) at
  pub are : l ≡ frames_in s (length l) at
  pub ends : frame_end s (length l) at ≡ length s

module _ (s : List ℕ) (at : ℕ) (h : at ≤ length s) where
  framed_none : length s ≤ at → (n : ℕ) → Always (λ l t. Framed s at l) (until_end property.read n (drop at s))
  unfolding Reaches frame_end frames_in
  framed_none l n =
      rw (drop_of_length-le s l, until_nil property.read n) (record { reaches = tt; are = refl; ends = omega arith })

  framed_cons : (l : List Property) → next_frame s at ≤ length s → Framed s (next_frame s at) l → Framed s at (property_in s at ∷ l)
  unfolding Reaches frame_end frames_in
  framed_cons l n f = record { reaches = (n, f.reaches); are = ap {B = List Property} (λ r. property_in s at ∷ r) f.are; ends = f.ends }

until_none : {A : Type 0} (r : Reader A) (P : List A → List ℕ → Type 0) (t : List ℕ) → 0 < length t → Always P (until_end r 0 t)
unfolding until_end at_end
until_none r P [] h = absurd (omega arith)
until_none r P (b ∷ t) h = tt

until_framed : (s : List ℕ) (fuel at : ℕ) → at ≤ length s → Always (λ l t. Framed s at l) (until_end property.read fuel (drop at s))
unfolding Reaches frame_end
until_framed s zero at h = go (leb (length s) at) refl
  where
    go : (b : Bool) → leb (length s) at ≡ b → Always (λ l t. Framed s at l) (until_end property.read 0 (drop at s))
    go true e = framed_none s at h (leb-true (length s) at e) 0
    go false e = until_none property.read (λ l t. Framed s at l) (drop at s) (rw length-drop (omega (arith, leb-false (length s) at e)))
until_framed s (suc n) at h = go (until_framed s n (next_frame s at)) (leb (length s) at) refl
  where
    there : (next_frame s at ≤ length s → Always (λ l t. Framed s (next_frame s at) l) (until_end property.read n (drop (next_frame s at) s)))
        → at < length s → (b : Bool) → leb (next_frame s at) (length s) ≡ b
        → Always (λ l t. Framed s at l) (until_end property.read (suc n) (drop at s))
    there r l true e =
        let k = leb-true (next_frame s at) (length s) e in
        rw (front s at n k)
        (always_bind (λ l t. Framed s (next_frame s at) l) (λ l t. Framed s at l) (until_end property.read n (drop (next_frame s at) s)) _ (r k)
        (λ x u f. framed_cons s at h x k f))
    there r l false e = rw (until_cut s 0 (suc n) at (omega arith) tt l (leb-false (next_frame s at) (length s) e)) tt

    go : (next_frame s at ≤ length s → Always (λ l t. Framed s (next_frame s at) l) (until_end property.read n (drop (next_frame s at) s)))
        → (b : Bool) → leb (length s) at ≡ b → Always (λ l t. Framed s at l) (until_end property.read (suc n) (drop at s))
    go r true e = framed_none s at h (leb-true (length s) at e) (suc n)
    go r false e = there r (leb-false (length s) at e) (leb (next_frame s at) (length s)) refl

pub properties_framed : (s : List ℕ) → is_got (frames s) ≡ true → Framed s 0 (properties_of s)
unfolding frames properties_of frames_or_none is_got
properties_framed s e = go (frames s) (until_framed s (length s) 0 (omega arith)) e
  where
    go : (x : Step (List Property)) → Always (λ l t. Framed s 0 l) x → is_got x ≡ true → Framed s 0 (frames_or_none x)
    go (refused k) a e = let z : ◌≡◌ {A = ℕ} 0 1 = cc in absurd (omega arith)
    go (got l t) a e = a

-- what the count says
pub counted_says : (r : Option ℕ) (x : Step (List Property)) → frames_of r ≡ counted x → (is_some r ≡ is_got x) × (unwrap_or r 0 ≡ length (frames_or_none x))
unfolding counted is_got frames_or_none
counted_says None (refused k) e = (refl, refl)
counted_says None (got l t) e = let z : ◌≡◌ {A = ℕ} 0 1 = cc in absurd (omega arith)
counted_says (Some n) (refused k) e = let z : ◌≡◌ {A = ℕ} 0 1 = cc in absurd (omega arith)
counted_says (Some n) (got l t) e = (refl, (cc))

-- ---- a loop over the frames by their number

-- What holds before each turn: the frames that are left lie in the bytes, and to check them is to check all.
pub record Framing (s : List ℕ) (at left : ℕ) : Type 0 where
  pub reaches : Reaches s left at
  pub rest : each property_check (frames_in s left at) ≡ each property_check (properties_of s)

module _ {s : List ℕ} where
  pub framing_start : {n : ℕ} → is_got (frames s) ≡ true → n ≡ length (properties_of s) → Framing s 0 n
  framing_start e q =
      let f = properties_framed s e in
      record { reaches = rw q f.reaches; rest = ap (each property_check) (rw q (sym f.are)) }

  module _ {at left : ℕ} (g : Framing s at left) (h : 0 < left) where
    pub framing_lies : at + 9 + u32 (drop (at + 5) s) * 21 ≤ length s
    unfolding next_frame
    framing_lies = (reaches_first s left at h g.reaches).0

    turns : each property_check (frames_in s left at)
        ≡ (each ik_check (table ik_state (u32 (drop (at + 5) s)) (drop (at + 9) s)) next each property_check (frames_in s (left - 1) (next_frame s at)))
    unfolding frames_in each property_check property_in
    turns =
        let d : left ≡ suc (left - 1) = omega arith in
        ap (λ i. each property_check (frames_in s i at)) d

    module _ {c : Check} {n : ℕ} (k : n ≡ u32 (drop (at + 5) s)) (e : c ≡ each ik_check (table ik_state n (drop (at + 9) s))) where
      is : c ≡ each ik_check (table ik_state (u32 (drop (at + 5) s)) (drop (at + 9) s))
      is = e ∙ ap (λ i. each ik_check (table ik_state i (drop (at + 9) s))) k

    module _ {n : ℕ} (k : n ≡ u32 (drop (at + 5) s)) where
      pub framing_fails : {j : Refusal} → fails j ≡ each ik_check (table ik_state n (drop (at + 9) s)) → fails j ≡ each property_check (properties_of s)
      framing_fails e = chain_fails _ (is k e) ∙ sym turns ∙ g.rest

      pub framing_turn : {p m : ℕ} → passes ≡ each ik_check (table ik_state n (drop (at + 9) s)) → p ≡ next_frame s at → m ≡ left - 1 → Framing s p m
      framing_turn e f d = record {
        reaches = rw (f, d) (reaches_first s left at h g.reaches).1;
        rest = rw (f, d) (chain_on _ (is k e) refl ∙ sym turns ∙ g.rest);
      }

  pub framing_end : {at left : ℕ} → Framing s at left → left ≡ 0 → passes ≡ each property_check (properties_of s)
  unfolding frames_in each
  framing_end g e = rw e at g.rest
