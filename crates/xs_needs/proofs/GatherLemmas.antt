-- One step of the gathering of drawings
use Rattle.std.proofs.Common.{◌≡◌, ◌<◌, ℕ, suc, true, cond, Result, Ok, Err, List, [], ◌∷◌, ◌++◌, length, All, Contains, OnOk, append_assoc, append-nil, sym, ap, ◌∙◌, subst}
use Rattle.std.specs.List.{list_any}
use Rattle.std.proofs.lemmas.Bool.{cond_both}
use Rattle.std.proofs.lemmas.List.Elements.{All-nil, All-cons, All-head, All-tail, All-push, Contains-append_left}
use Rattle.xs_scene.specs.declared.node.Ref.{Ref}
use Rattle.xs_scene.specs.Records.{SceneRecord}
use Rattle.xs_meaning.specs.Expressions.{Staying, Both, First, Second, Neither}
use Rattle.xs_base.specs.Listed.{is_listed}
use Rattle.xs_check.specs.Good.{files_of}
use Rattle.xs_needs.specs.declared.found.Found.{Found}
use Rattle.xs_needs.specs.declared.found.Gathered.{Gathered}
use Rattle.indexmap.specs.IndexSet.{insert_key}
use Rattle.xs_needs.specs.declared.found.Known.{Known}
use Rattle.xs_step.specs.declared.spot.Spot.{Spot}
use Rattle.xs_needs.specs.Found.{AreWhole, IsSound, KeepsFlags, IsKept}
use Rattle.xs_step.specs.Spots.{same_spot}
use Rattle.xs_needs.proofs.Remembered.{listed-kept}
use Rattle.xs_base.specs.Once.{fresh, with_one, with_each}
use Rattle.xs_needs.specs.Shown.{Showing, drawings_in, drawings_over, showing_staying, first_stays, second_stays}

-- what follows from two facts that hold where a call succeeds holds there
pub OnOk-both : {A E : Type 0} (r : Result A E) (P Q R : Type 0) → (P → Q → R) → OnOk r P → OnOk r Q → OnOk r R
OnOk-both (Ok a) P Q R leads first second = leads first second
OnOk-both (Err e) P Q R leads first second = tt

-- the law of two lists that are gone through one after the other
abbrev pub OneAfterAnother : Type 0
OneAfterAnother = (known xs ys : List ℕ) → fresh known (xs ++ ys) ≡ fresh known xs ++ fresh (known ++ fresh known xs) ys

with_both :
    OneAfterAnother → (known xs ys : List ℕ) → with_each known (xs ++ ys) ≡ with_each (with_each known xs) ys
with_both after known xs ys =
    ap (λ l. known ++ l) (after known xs ys)
    ∙ sym (append_assoc known (fresh known xs) (fresh (known ++ fresh known xs) ys))

pub with_none : (known : List ℕ) → with_each known [] ≡ known
unfolding fresh
with_none known = append-nil known

-- a pair: first the drawings of the first input if it stays, then those of the second if that stays
pub gathered-pair :
    OneAfterAnother → (known : List ℕ) (stays : Staying) (a b : Showing)
    → with_each (with_each known (cond (first_stays stays) (drawings_in a) [])) (cond (second_stays stays) (drawings_in b) [])
    ≡ with_each known (drawings_in (showing_staying stays a b))
gathered-pair after known Both a b = sym (with_both after known (drawings_in a) (drawings_in b))
gathered-pair after known First a b = with_none (with_each known (drawings_in a))
gathered-pair after known Second a b = ap (λ l. with_each l (drawings_in b)) (with_none known)
gathered-pair after known Neither a b = with_none (with_each known [])

over-last :
    (E : Ref → Showing) (below : List Ref) (t : Ref) → drawings_over E (below ++ t ∷ []) ≡ drawings_in (E t) ++ drawings_over E below
over-last E [] t = sym (append-nil (drawings_in (E t)))
over-last E (b ∷ below) t =
    ap (λ l. l ++ drawings_in (E b)) (over-last E below t)
    ∙ append_assoc (drawings_in (E t)) (drawings_over E below) (drawings_in (E b))

-- columns and nodes that lie over one another: first the topmost one
pub gathered-topmost :
    OneAfterAnother → (known : List ℕ) (E : Ref → Showing) (ts below : List Ref) (t : Ref) → ts ≡ below ++ t ∷ []
    → with_each known (drawings_over E ts) ≡ with_each (with_each known (drawings_in (E t))) (drawings_over E below)
gathered-topmost after known E ts below t is =
    ap (λ us. with_each known (drawings_over E us)) is
    ∙ ap (with_each known) (over-last E below t)
    ∙ with_both after known (drawings_in (E t)) (drawings_over E below)

pub All-front : {X : Type 0} (P : X → Type 0) (xs ys : List X) → All P (xs ++ ys) → All P xs
All-front P [] ys all = All-nil P
All-front P (x ∷ xs) ys all =
    All-cons P x xs (All-head P x (xs ++ ys) all) (All-front P xs ys (All-tail P x (xs ++ ys) all))

-- what is remembered stays sound
pub sound-note :
    (s : SceneRecord) (found : Found) (g : Gathered) → IsSound s found
    → g.drawings.keys ≡ found.gathered.drawings.keys → AreWhole s g.drawings.keys g.whole.keys
    → IsSound s (record { known = found.known; gathered = g })
sound-note s found g sound same whole =
    record {
      right = sound.right;
      whole = whole;
      below = subst (All (λ d. d < length (files_of s.levels))) (sym same) sound.below;
    }

pub sound-add :
    (s : SceneRecord) (found : Found) (g : Gathered) (d : ℕ) → IsSound s found → d < length (files_of s.levels)
    → g.drawings.keys ≡ with_one found.gathered.drawings.keys d → g.whole.keys ≡ found.gathered.whole.keys
    → IsSound s (record { known = found.known; gathered = g })
sound-add s found g d sound there added same =
    let old = found.gathered.drawings.keys in
    let P : ℕ → Type 0 = λ d. d < length (files_of s.levels) in
    record {
      right = sound.right;
      whole =
          subst (λ (l : List ℕ). AreWhole s l g.whole.keys) (sym added)
          (subst (AreWhole s (with_one old d)) (sym same)
          (λ i p lt j e below. keeps _ (sound.whole i p lt j e below)));
      below =
          subst (All P) (sym added)
          (cond_both (is_listed old d) old (old ++ d ∷ []) (All P) (λ listed. sound.below) (λ new. All-push P old d sound.below there));
    }
  where
    keeps : (x : ℕ) → Contains found.gathered.drawings.keys x → Contains (with_one found.gathered.drawings.keys d) x
    keeps x at =
        let old = found.gathered.drawings.keys in
        cond_both (is_listed old d) old (old ++ d ∷ []) (λ (l : List ℕ). Contains l x)
        (λ listed. at) (λ new. Contains-append_left old (d ∷ []) x at)

-- ---- nothing is forgotten

pub kept-same : (found : Found) → IsKept found found
kept-same found = record { flags = λ p known. known; whole = λ p there. there }

pub kept-then : (first second third : Found) → IsKept first second → IsKept second third → IsKept first third
kept-then first second third one other =
    record {
      flags = λ p known. other.flags p (one.flags p known);
      whole = λ p there. other.whole p (one.whole p there);
    }

pub kept-flags : (found : Found) (known : Known) → KeepsFlags found.known known → IsKept found (record { known = known; gathered = found.gathered })
kept-flags found known keeps = record { flags = keeps; whole = λ p there. there }

pub kept-note :
    (old found : Found) (g : Gathered) (noted : Spot) → IsKept old found
    → g.whole.keys ≡ insert_key same_spot found.gathered.whole.keys noted
    → IsKept old (record { known = found.known; gathered = g })
kept-note old found g noted kept is =
    record {
      flags = kept.flags;
      whole = λ p there. listed-kept found.gathered.whole.keys g.whole.keys noted p is (kept.whole p there);
    }

pub kept-add :
    (found : Found) (g : Gathered) → g.whole.keys ≡ found.gathered.whole.keys
    → IsKept found (record { known = found.known; gathered = g })
kept-add found g same =
    record {
      flags = λ p known. known;
      whole = λ p there. subst (λ (ps : List Spot). list_any (same_spot p) ps ≡ true) (sym same) there;
    }
