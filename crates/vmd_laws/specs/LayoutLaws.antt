-- What is written is bytes and is read back, and what is read can be written: for each layout and for layouts put together.
use Rattle.std.specs.Prelude.{ℕ, ◌≤◌, ◌<◌, ◌^◌, ◌≡◌, refl, List, [], ◌++◌, length, drop}
use Rattle.std.proofs.Common.{ap, sym, ◌∙◌, subst, append_assoc, arith, length-append, length-drop, drop_at}
use Rattle.vmd_format.specs.Bytes.{u32_bytes, flag_byte, inverted_byte}
use Rattle.vmd_laws.specs.BytesLaws.{Bytes, bytes_drop, bytes_nil, bytes_cons, bytes_append, u32_back, u32_lt, u32_bytes_small, Name, Raw, padded_length, padded_small, padded_back, padded_take, name_fair, raw_fair, inverted_back, flag_back, inverted_small, flag_small}
use Rattle.vmd_format.specs.Layout.{Layout, number, byte, flag, inverted, name, raw, ◌⊗◌, as_record}

pub record Lawful {A : Type 0} (K : Layout A) (Good : A → Type 0) : Type 0 where
  pub wide : (a : A) → length (K.encode a) ≡ K.size
  pub back : (a : A) (rest : List ℕ) → Good a → K.decode (K.encode a ++ rest) ≡ a
  pub fair : (s : List ℕ) → Bytes s → K.size ≤ length s → Good (K.decode s)
  pub small : (a : A) → Good a → Bytes (K.encode a)

pub number_lawful : Lawful number (λ n. n < 2 ^ 32)
unfolding number u32_bytes
number_lawful = record { wide = λ n. refl; back = u32_back; fair = λ s h l. u32_lt s h; small = λ n h. u32_bytes_small n }

pub byte_lawful : Lawful byte (λ b. b < 256)
unfolding byte
byte_lawful = record { wide = λ b. refl; back = λ b rest h. refl; fair = λ s h l. h 0; small = λ b h. bytes_cons b [] h bytes_nil }

pub flag_lawful : Lawful flag (λ b. Unit {0})
unfolding flag
flag_lawful = record { wide = λ b. refl; back = λ b rest h. flag_back b; fair = λ s h l. tt; small = λ b h. bytes_cons (flag_byte b) [] (flag_small b) bytes_nil }

pub inverted_lawful : Lawful inverted (λ b. Unit {0})
unfolding inverted
inverted_lawful = record { wide = λ b. refl; back = λ b rest h. inverted_back b; fair = λ s h l. tt; small = λ b h. bytes_cons (inverted_byte b) [] (inverted_small b) bytes_nil }

pub name_lawful : (n : ℕ) → Lawful (name n) (Name n)
unfolding name
name_lawful n = record { wide = padded_length n; back = λ s rest h. padded_back n s rest h; fair = λ s h l. name_fair n s h; small = λ s h. padded_small n s h.small }

pub raw_lawful : (n : ℕ) → Lawful (raw n) (Raw n)
unfolding raw
raw_lawful n = record { wide = padded_length n; back = λ s rest h. padded_take n s rest h.long; fair = λ s h l. raw_fair n s h l; small = λ s h. padded_small n s h.small }

pair_path : {A B : Type 0} {a c : A} {b d : B} → a ≡ c → b ≡ d → ◌≡◌ {A = A × B} (a, b) (c, d)
pair_path p q = λ i. (p i, q i)

infixr 60 ◌⊗-lawful◌
pub ◌⊗-lawful◌ : {A B : Type 0} {K : Layout A} {L : Layout B} {G : A → Type 0} {H : B → Type 0}
    → Lawful K G → Lawful L H → Lawful (K ⊗ L) (λ p. G p.0 × H p.1)
unfolding ◌⊗◌
◌⊗-lawful◌ {K} {L} k l = record {
  wide = λ p. length-append (K.encode p.0) (L.encode p.1) ∙ omega (arith, k.wide p.0, l.wide p.1);
  back = λ p rest h.
      pair_path (rw append_assoc (k.back p.0 (L.encode p.1 ++ rest) h.0))
      (rw (append_assoc, drop_at (K.encode p.0) (L.encode p.1 ++ rest) K.size (k.wide p.0)) (l.back p.1 rest h.1));
  fair = λ s h n. (k.fair s h (omega arith), l.fair (drop K.size s) (bytes_drop K.size s h) (rw length-drop (omega arith)));
  small = λ p h. bytes_append (K.encode p.0) (L.encode p.1) (k.small p.0 h.0) (l.small p.1 h.1);
}

pub record_lawful : {A B : Type 0} {K : Layout A} {G : A → Type 0} (f : A → B) (g : B → A) → ((b : B) → f (g b) ≡ b) → ((a : A) → g (f a) ≡ a)
    → Lawful K G → Lawful (as_record f g K) (λ b. G (g b))
unfolding as_record
record_lawful {G = G} f g fg gf k = record {
  wide = λ b. k.wide (g b);
  back = λ b rest h. ap f (k.back (g b) rest h) ∙ fg b;
  fair = λ s h l. subst G (sym (gf _)) (k.fair s h l);
  small = λ b h. k.small (g b) h;
}
