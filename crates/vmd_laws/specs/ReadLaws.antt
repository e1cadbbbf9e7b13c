-- What is written is bytes and is read back, and what is read can be written: for sections of any records.
use Prim.Native.Nat.{ℕ, zero, suc, ◌*◌, ◌≤◌, ◌<◌, ◌^◌}
use Rattle.std.specs.Prelude.{◌≡◌, Bool, length, drop}
use Rattle.std.proofs.Math.Path.{refl}
use Rattle.std.proofs.Common.{ap}
use Rattle.std.proofs.Math.Bool.{true, false}
use mathlib.Core.List.{List, [], ◌∷◌, ◌++◌, append_assoc}
use native.Mathlib.Omega.{arith}
use borrow.Author.Tests.{le-leb, leb-true}
use Rattle.std.proofs.Math.ListN.{length-append}
use Rattle.std.proofs.Math.Seq.{drop_at}
use Rattle.std.proofs.Math.Dec.{leb}
use Rattle.vmd_format.specs.Bytes.{u32, u32_bytes}
use Rattle.vmd_laws.specs.BytesLaws.{Bytes, bytes_drop, bytes_nil, bytes_append, u32_back, u32_lt, u32_bytes_small}
use Rattle.vmd_format.specs.Layout.{Layout}
use Rattle.vmd_laws.specs.LayoutLaws.{Lawful}
use Rattle.vmd_format.specs.Read.{Step, refused, got, Reader, bind, Codec, whole_if, whole, fixed, many, Section, Oversized, refuse, emptied, no_section, over_count, records_if, counted_if, counted, optional, write_all, write_counted}

-- a fact of each value that is read and of the bytes after it
abbrev pub Always : {A : Type 0} → (A → List ℕ → Type 0) → Step A → Type 0
Always P (refused k) = Unit {0}
Always P (got a s) = P a s

pub always_bind : {A B : Type 0} (P : A → List ℕ → Type 0) (Q : B → List ℕ → Type 0) (m : Step A) (f : A → Reader B)
    → Always P m → ((a : A) (s : List ℕ) → P a s → Always Q (f a s)) → Always Q (bind m f)
unfolding bind
always_bind P Q (refused k) f h g = tt
always_bind P Q (got a s) f h g = g a s h

abbrev pub All : {A : Type 0} → (A → Type 0) → List A → Type 0
All P [] = Unit {0}
All P (a ∷ l) = P a × All P l

pub all_append : {A : Type 0} (P : A → Type 0) (l m : List A) → All P l → All P m → All P (l ++ m)
all_append P [] m h k = k
all_append P (a ∷ l) m h k = (h.0, all_append P l m h.1 k)

pub write_all_append : {A : Type 0} (w : A → List ℕ) (l m : List A) → write_all w (l ++ m) ≡ write_all w l ++ write_all w m
unfolding write_all
write_all_append w [] m = refl
write_all_append w (a ∷ l) m = rw (write_all_append w l m, append_assoc)

pub record CodecLaws {A : Type 0} (C : Codec A) (Good : A → Type 0) : Type 0 where
  pub wide : (a : A) → C.least ≤ length (C.write a)
  pub back : (a : A) (rest : List ℕ) → Good a → C.read (C.write a ++ rest) ≡ got a rest
  pub fair : (s : List ℕ) → Bytes s → Always (λ a t. Good a × Bytes t) (C.read s)
  pub small : (a : A) → Good a → Bytes (C.write a)

module _ {A : Type 0} {K : Layout A} {Good : A → Type 0} (k : Lawful K Good) where
  pub whole_back : (a : A) (rest : List ℕ) → Good a → whole K (K.encode a ++ rest) ≡ got a rest
  unfolding whole whole_if
  whole_back a rest h =
      rw (
        le-leb K.size (length (K.encode a ++ rest)) (simp length-append (omega (arith, k.wide a))),
        k.back a rest h,
        drop_at (K.encode a) rest K.size (k.wide a),
      )

  pub whole_fair : (s : List ℕ) → Bytes s → Always (λ a t. Good a × Bytes t) (whole K s)
  unfolding whole whole_if
  whole_fair s h = go (leb K.size (length s)) refl
    where
      go : (b : Bool) → leb K.size (length s) ≡ b → Always (λ a t. Good a × Bytes t) (whole_if b K s)
      go true e = (k.fair s h (leb-true _ _ e), bytes_drop K.size s h)
      go false e = tt

  pub fixed_lawful : CodecLaws (fixed K) Good
  unfolding fixed
  fixed_lawful = record { wide = λ a. omega (arith, k.wide a); back = whole_back; fair = whole_fair; small = k.small }

-- what is read of a section: a count that fits, records that can be written
abbrev pub Sound : {A : Type 0} → (A → Type 0) → Section A → List ℕ → Type 0
Sound Good x t = (length x.items < 2 ^ 32) × All Good x.items × Bytes t

none_sound : {A : Type 0} (Good : A → Type 0) → Sound Good no_section []
unfolding no_section
none_sound Good = (omega arith, tt, bytes_nil)

over_sound : {A : Type 0} (Good : A → Type 0) (o : Oversized) → Always (Sound Good) (over_count o)
unfolding over_count
over_sound Good (refuse k) = tt
over_sound Good emptied = none_sound Good

module _ {A : Type 0} {C : Codec A} {Good : A → Type 0} (c : CodecLaws C Good) where
  many_back : (l : List A) (rest : List ℕ) → All Good l → many C.read (length l) (write_all C.write l ++ rest) ≡ got l rest
  unfolding many write_all bind
  many_back [] rest h = refl
  many_back (a ∷ l) rest h =
      rw (append_assoc, c.back a (write_all C.write l ++ rest) h.0, many_back l rest h.1)

  many_fair : (n : ℕ) (s : List ℕ) → Bytes s → Always (λ l t. (length l ≡ n) × All Good l × Bytes t) (many C.read n s)
  unfolding many
  many_fair zero s h = (refl, tt, h)
  many_fair (suc n) s h =
      always_bind (λ a t. Good a × Bytes t) (λ l t. (length l ≡ suc n) × All Good l × Bytes t) (C.read s) _ (c.fair s h) λ a t g.
      always_bind (λ l u. (length l ≡ n) × All Good l × Bytes u) (λ l t. (length l ≡ suc n) × All Good l × Bytes t) (many C.read n t) _ (many_fair n t g.1) λ l u k.
      (ap suc k.0, (g.0, k.1), k.2)

  all_wide : (l : List A) → length l * C.least ≤ length (write_all C.write l)
  unfolding write_all
  all_wide [] = omega arith
  all_wide (a ∷ l) = simp length-append (omega (arith, c.wide a, all_wide l))

  all_small : (l : List A) → All Good l → Bytes (write_all C.write l)
  unfolding write_all
  all_small [] h = bytes_nil
  all_small (a ∷ l) h = bytes_append (C.write a) (write_all C.write l) (c.small a h.0) (all_small l h.1)

  pub counted_small : (l : List A) → All Good l → Bytes (write_counted C l)
  unfolding write_counted
  counted_small l h = bytes_append (u32_bytes (length l)) (write_all C.write l) (u32_bytes_small (length l)) (all_small l h)

  pub counted_back : (o : Oversized) (l : List A) (rest : List ℕ) → length l < 2 ^ 32 → All Good l
      → counted o C (write_counted C l ++ rest) ≡ got (record { start = write_all C.write l ++ rest; items = l }) rest
  unfolding counted counted_if records_if write_counted u32_bytes bind
  counted_back o l rest n h =
      rw (
        le-leb 4 (length (write_counted C l ++ rest)) (omega arith),
        u32_back (length l) (write_all C.write l ++ rest) n,
        le-leb (length l * C.least) (length (write_all C.write l ++ rest)) (simp length-append (omega (arith, all_wide l))),
        many_back l rest h,
      )

  pub counted_fair : (o : Oversized) (s : List ℕ) → Bytes s → Always (Sound Good) (counted o C s)
  unfolding counted counted_if records_if
  counted_fair o s h = go (leb 4 (length s))
    where
      fill : (b : Bool) → Always (Sound Good) (records_if b o C (u32 s) (drop 4 s))
      fill true =
          always_bind (λ l t. (length l ≡ u32 s) × All Good l × Bytes t) (Sound Good) (many C.read (u32 s) (drop 4 s)) _
          (many_fair (u32 s) (drop 4 s) (bytes_drop 4 s h)) λ l t k.
          (omega (arith, u32_lt s h, k.0), k.1, k.2)
      fill false = over_sound Good o

      go : (b : Bool) → Always (Sound Good) (counted_if b o C s)
      go true = fill (leb (u32 s * C.least) (length (drop 4 s)))
      go false = tt

  pub optional_back : (o : Oversized) (l : List A) (rest : List ℕ) → length l < 2 ^ 32 → All Good l
      → optional (counted o C) (write_counted C l ++ rest) ≡ got (record { start = write_all C.write l ++ rest; items = l }) rest
  unfolding optional write_counted u32_bytes
  optional_back o l rest n h = counted_back o l rest n h

pub optional_fair : {A : Type 0} (Good : A → Type 0) (r : Reader (Section A))
    → ((s : List ℕ) → Bytes s → Always (Sound Good) (r s)) → (s : List ℕ) → Bytes s → Always (Sound Good) (optional r s)
unfolding optional
optional_fair Good r f [] h = none_sound Good
optional_fair Good r f (b ∷ s) h = f (b ∷ s) h
