-- Laws of a name up to its first line feed: what it is, and that it is a name. Assumes nothing.
use Rattle.std.specs.Prelude.{ℕ, zero, suc, ◌≤◌, ◌<◌, ◌≡◌, refl, Bool, true, false, List, [], ◌∷◌, ◌++◌, eqb, length, get_or}
use Rattle.std.proofs.Common.{sym, ap, ◌∙◌, append-nil, arith, eqb-true, ne_eqb}
use Rattle.std.proofs.lemmas.Bool.{eqb-false}
use Rattle.vmd_laws.specs.BytesLaws.{Bytes, Name}
use Rattle.vmd_laws.specs.ReadLaws.{All}
use Rattle.vmd_keys.specs.Names.{registered_if, registration_name}

-- nothing, or a line feed and whatever follows it
pub data FromLineFeed : List ℕ → Type 0 where
  nothing : FromLineFeed []
  line_feed : (l : List ℕ) → FromLineFeed (10 ∷ l)

-- r is name n "up to the first byte 0x0A": bytes none of which is a line feed, and then the name's first one, or its end
pub record UpToLineFeed (n r : List ℕ) : Type 0 where
  pub none : All (λ b. ¬ (b ≡ 10)) r
  pub remark : List ℕ
  pub whole : n ≡ r ++ remark
  pub from : FromLineFeed remark

-- LAW: the definition is that
pub registered : (n : List ℕ) → UpToLineFeed n (registration_name n)
unfolding registration_name registered_if
registered [] = record { none = tt; remark = []; whole = refl; from = nothing }
registered (b ∷ n) = go (eqb b 10) refl (registered n)
  where
    go : (x : Bool) → eqb b 10 ≡ x → UpToLineFeed n (registration_name n) → UpToLineFeed (b ∷ n) (registered_if x b (registration_name n))
    go true e u = record { none = tt; remark = 10 ∷ n; whole = ap (λ (t : ℕ). t ∷ n) (eqb-true b 10 e); from = line_feed n }
    go false e u = record {
      none = (eqb-false b 10 e, u.none);
      remark = u.remark;
      whole = ap (λ (t : List ℕ). b ∷ t) u.whole;
      from = u.from;
    }

past : (r l : List ℕ) → All (λ b. ¬ (b ≡ 10)) r → registration_name (r ++ l) ≡ r ++ registration_name l
unfolding registration_name registered_if
past [] l h = refl
past (b ∷ r) l h = rw (ne_eqb b 10 h.0) (ap (λ (t : List ℕ). b ∷ t) (past r l h.1))

cut_there : (l : List ℕ) → FromLineFeed l → registration_name l ≡ []
unfolding registration_name registered_if
cut_there l nothing = refl
cut_there l (line_feed m) = refl

-- LAW: and nothing else is
pub registered_only : (n r : List ℕ) → UpToLineFeed n r → registration_name n ≡ r
registered_only n r u =
    ap registration_name u.whole ∙ past r u.remark u.none
    ∙ ap (λ (t : List ℕ). r ++ t) (cut_there u.remark u.from) ∙ append-nil r

-- LAW: a line feed and a remark after a name change no track
pub remark_cut : (n l : List ℕ) → registration_name (n ++ (10 ∷ l)) ≡ registration_name n
unfolding registration_name registered_if
remark_cut [] l = refl
remark_cut (b ∷ n) l = ap (registered_if (eqb b 10) b) (remark_cut n l)

-- LAW: what tells a track is its own
pub registered_twice : (n : List ℕ) → registration_name (registration_name n) ≡ registration_name n
registered_twice n =
    let u = registered n in
    registered_only (registration_name n) (registration_name n) (record { none = u.none; remark = []; whole = sym (append-nil (registration_name n)); from = nothing })

-- ---- a name up to its first line feed is a name

pub registered_short : (n : List ℕ) → length (registration_name n) ≤ length n
unfolding registration_name registered_if
registered_short [] = omega arith
registered_short (b ∷ n) = go (eqb b 10) (registered_short n)
  where
    go : (x : Bool) → length (registration_name n) ≤ length n → length (registered_if x b (registration_name n)) ≤ suc (length n)
    go true h = omega arith
    go false h = omega arith

registered_bytes : (n : List ℕ) → Bytes n → Bytes (registration_name n)
unfolding registration_name registered_if
registered_bytes [] h = h
registered_bytes (b ∷ n) h = go (eqb b 10) (registered_bytes n (λ i. h (suc i)))
  where
    go : (x : Bool) → Bytes (registration_name n) → Bytes (registered_if x b (registration_name n))
    go true k i = omega arith
    go false k zero = h 0
    go false k (suc i) = k i

registered_whole : (n : List ℕ) → ((i : ℕ) → i < length n → 0 < get_or n i 0) → (i : ℕ) → i < length (registration_name n) → 0 < get_or (registration_name n) i 0
unfolding registration_name registered_if
registered_whole [] h = h
registered_whole (b ∷ n) h = go (eqb b 10) (registered_whole n (λ i k. h (suc i) (omega arith)))
  where
    go : (x : Bool) → ((i : ℕ) → i < length (registration_name n) → 0 < get_or (registration_name n) i 0)
        → (i : ℕ) → i < length (registered_if x b (registration_name n)) → 0 < get_or (registered_if x b (registration_name n)) i 0
    go true k i l = absurd (omega arith)
    go false k zero l = h 0 (omega arith)
    go false k (suc i) l = k i (omega arith)

pub registered_name : {w : ℕ} {n : List ℕ} → Name w n → Name w (registration_name n)
registered_name {w} {n} h = record {
  short = omega (arith, h.short, registered_short n);
  none_zero = registered_whole n h.none_zero;
  small = registered_bytes n h.small;
}
