-- Different numbers mean different expressions
use Rattle.std.proofs.Common.{◌≡◌, ◌≢◌, ◌⊎◌, ◌<◌, zero, suc, ℕ, List, [], ◌∷◌, Some, AllPairs, length, slice_get, slice_index_or, refl, sym, ap, ◌∙◌, subst, inl, inr, arith}
use Rattle.std.proofs.lemmas.Bool.{cases_lt}
use Rattle.xs_pixel.specs.Channels.{Channels}
use Rattle.xs_pixel.specs.Points.{Point, point}
use Rattle.xs_meaning.specs.Expressions.{Expr}
use Rattle.xs_alias.specs.declared.key.Key.{Key}
use Rattle.xs_alias.specs.declared.key.Key.TheVariants as key
use Rattle.xs_alias.specs.Numbers.{IsOver, IsNumbering}
use Rattle.xs_alias.specs.Meanings.{IsTinted, AreTinted, expr_at, stands_for, meanings, meaning}
use Rattle.xs_alias.proofs.Meaning.{meaning_is}

-- each number below the length has a key
key_there : (ks : List Key) (n : ℕ) → n < length ks → (k : Key) × (slice_get ks n ≡ Some k)
key_there [] n here = absurd (omega arith)
key_there (k ∷ ks) zero here = (k, refl)
key_there (k ∷ ks) (suc n) here = key_there ks n (omega arith)

-- a is an input of a key
abbrev IsInput : Key → ℕ → Type 0
IsInput key.Clear n = ⊥
IsInput (key.Leaf d x y) n = ⊥
IsInput (key.Tinted d x y t) n = ⊥
IsInput (key.Card p) n = ⊥
IsInput (key.Pair op a b) n = (n ≡ a) ⊎ (n ≡ b)
IsInput (key.Blur a r) n = n ≡ a

input_below : (n : ℕ) (k : Key) (a : ℕ) → IsOver n k → IsInput k a → a < n
input_below n key.Clear a over is = absurd is
input_below n (key.Leaf d x y) a over is = absurd is
input_below n (key.Tinted d x y t) a over is = absurd is
input_below n (key.Card p) a over is = absurd is
input_below n (key.Pair op b c) a over is =
    elim is [
      | inl first ↦ subst (λ m. m < n) (sym first) over.0
      | inr second ↦ subst (λ m. m < n) (sym second) over.1
    ]
input_below n (key.Blur b r) a over is = subst (λ m. m < n) (sym is) over

-- the inputs of two keys are equal where they mean the same
abbrev SameInputs : List Expr → Key → Key → Type 0
SameInputs es k l = (a c : ℕ) → IsInput k a → IsInput l c → expr_at es a ≡ expr_at es c → a ≡ c

module _ (tints : List (List Channels)) (differ : AllPairs (λ s t. s ≢ t) tints) where
  same_tints :
      (t u : ℕ) → t < length tints → u < length tints → slice_index_or tints t [] ≡ slice_index_or tints u [] → t ≡ u
  same_tints t u here there same =
      elim (cases_lt t u) [
        | inl less ↦ absurd (differ t u [] less there same)
        | inr more ↦ elim (cases_lt u t) [
          | inl less ↦ absurd (differ u t [] less here (sym same))
          | inr most ↦ omega arith
        ]
      ]

  module _ (es : List Expr) where
    same_keys :
        (k l : Key) → IsTinted (length tints) k → IsTinted (length tints) l → SameInputs es k l
        → stands_for tints es k ≡ stands_for tints es l → k ≡ l
    same_keys key.Clear key.Clear tinted others inputs same = refl
    same_keys key.Clear (key.Leaf f v w) tinted others inputs same = cc
    same_keys key.Clear (key.Tinted f v w u) tinted others inputs same = cc
    same_keys key.Clear (key.Card q) tinted others inputs same = cc
    same_keys key.Clear (key.Pair o c e) tinted others inputs same = cc
    same_keys key.Clear (key.Blur c s) tinted others inputs same = cc
    same_keys (key.Leaf d x y) key.Clear tinted others inputs same = cc
    same_keys (key.Leaf d x y) (key.Leaf f v w) tinted others inputs same =
        let at : point x y ≡ point v w = cc in
        let right : x ≡ v = ap (λ (p : Point). p.x) at in
        let up : y ≡ w = ap (λ (p : Point). p.y) at in
        cc
    same_keys (key.Leaf d x y) (key.Tinted f v w u) tinted others inputs same = cc
    same_keys (key.Leaf d x y) (key.Card q) tinted others inputs same = cc
    same_keys (key.Leaf d x y) (key.Pair o c e) tinted others inputs same = cc
    same_keys (key.Leaf d x y) (key.Blur c s) tinted others inputs same = cc
    same_keys (key.Tinted d x y t) key.Clear tinted others inputs same = cc
    same_keys (key.Tinted d x y t) (key.Leaf f v w) tinted others inputs same = cc
    same_keys (key.Tinted d x y t) (key.Tinted f v w u) tinted others inputs same =
        let at : point x y ≡ point v w = cc in
        let right : x ≡ v = ap (λ (p : Point). p.x) at in
        let up : y ≡ w = ap (λ (p : Point). p.y) at in
        let tint : t ≡ u = same_tints t u tinted others cc in
        cc
    same_keys (key.Tinted d x y t) (key.Card q) tinted others inputs same = cc
    same_keys (key.Tinted d x y t) (key.Pair o c e) tinted others inputs same = cc
    same_keys (key.Tinted d x y t) (key.Blur c s) tinted others inputs same = cc
    same_keys (key.Card p) key.Clear tinted others inputs same = cc
    same_keys (key.Card p) (key.Leaf f v w) tinted others inputs same = cc
    same_keys (key.Card p) (key.Tinted f v w u) tinted others inputs same = cc
    same_keys (key.Card p) (key.Card q) tinted others inputs same = cc
    same_keys (key.Card p) (key.Pair o c e) tinted others inputs same = cc
    same_keys (key.Card p) (key.Blur c s) tinted others inputs same = cc
    same_keys (key.Pair op a b) key.Clear tinted others inputs same = cc
    same_keys (key.Pair op a b) (key.Leaf f v w) tinted others inputs same = cc
    same_keys (key.Pair op a b) (key.Tinted f v w u) tinted others inputs same = cc
    same_keys (key.Pair op a b) (key.Card q) tinted others inputs same = cc
    same_keys (key.Pair op a b) (key.Pair o c e) tinted others inputs same =
        let first : a ≡ c = inputs a c (inl refl) (inl refl) cc in
        let second : b ≡ e = inputs b e (inr refl) (inr refl) cc in
        cc
    same_keys (key.Pair op a b) (key.Blur c s) tinted others inputs same = cc
    same_keys (key.Blur a r) key.Clear tinted others inputs same = cc
    same_keys (key.Blur a r) (key.Leaf f v w) tinted others inputs same = cc
    same_keys (key.Blur a r) (key.Tinted f v w u) tinted others inputs same = cc
    same_keys (key.Blur a r) (key.Card q) tinted others inputs same = cc
    same_keys (key.Blur a r) (key.Pair o c e) tinted others inputs same = cc
    same_keys (key.Blur a r) (key.Blur c s) tinted others inputs same =
        let input : a ≡ c = inputs a c refl refl cc in
        cc

  module _ (keys : List Key) (numbering : IsNumbering keys) (tinted : AreTinted (length tints) keys) where
    abbrev SameBelow : ℕ → Type 0
    SameBelow bound =
        (m n : ℕ) → m < bound → m < length keys → n < length keys → meaning tints keys m ≡ meaning tints keys n → m ≡ n

    same_inputs :
        (m n : ℕ) (k l : Key) → SameBelow m → m < length keys → n < length keys → IsOver m k → IsOver n l
        → SameInputs (meanings tints keys) k l
    same_inputs m n k l below here there over also =
        λ a c first second same.
        let lower : a < m = input_below m k a over first in
        let other : c < n = input_below n l c also second in
        below a c lower (omega arith) (omega arith) same

    same_below : (bound : ℕ) → SameBelow bound
    same_below zero m n less here there same = absurd (omega arith)
    same_below (suc bound) m n less here there same =
        let k = key_there keys m here in
        let l = key_there keys n there in
        let below : SameBelow m = λ a b under. same_below bound a b (omega arith) in
        let equal : k.0 ≡ l.0 =
        same_keys (meanings tints keys) k.0 l.0 (tinted m k.0 k.1) (tinted n l.0 l.1)
        (same_inputs m n k.0 l.0 below here there (numbering.founded m k.0 k.1) (numbering.founded n l.0 l.1))
        (sym (meaning_is tints keys numbering m k.0 k.1) ∙ same ∙ meaning_is tints keys numbering n l.0 l.1) in
        numbering.distinct m n k.0 k.1 (l.1 ∙ ap (λ y. Some y) (sym equal))

    pub different :
        (m n : ℕ) → m < length keys → n < length keys → meaning tints keys m ≡ meaning tints keys n → m ≡ n
    different m n here there same = same_below (suc m) m n (omega arith) here there same
