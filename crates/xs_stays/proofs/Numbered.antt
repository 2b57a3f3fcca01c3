-- Sets of styles keep their numbers
use Rattle.std.proofs.Common.{◌≡◌, ◌<◌, ℕ, zero, suc, Bool, true, false, cond, Option, Some, None, List, [], ◌∷◌, All, length, slice_get, slice_index_or, ◌||◌, ◌&&◌, not, is_none, refl, sym, ap, ap₂, ◌∙◌, subst, arith}
use Rattle.std.specs.Bool.{beq}
use Rattle.std.specs.Cmp.{booleans_Decides}
use Rattle.std.specs.Cmp.Lexicographic.{pointwise}
use Rattle.std.proofs.Math.Path.{fun_ext}
use Rattle.std.proofs.lemmas.Bool.{and_parts, false≢true}
use Rattle.std.proofs.lemmas.List.Elements.{All-nil, All-head, All-tail, All-cons}
use Rattle.xs_scene.specs.Records.{SceneRecord}
use Rattle.xs_step.specs.declared.spot.Spot.{Spot}
use Rattle.xs_stays.specs.declared.found.Found.{Found}
use Rattle.xs_stays.specs.declared.found.Remembered.{Remembered}
use Rattle.xs_stays.specs.Found.{styles_of, stay_of, HasSet, IsFound, AreRight, KeepsSets, Numbers}
use Rattle.xs_stays.specs.Sets.{styles_in}
use Rattle.xs_pixel.specs.declared.operation.Op.{Op}
use Rattle.xs_meaning.specs.Expressions.{staying}
use Rattle.xs_meaning.specs.Palettes.{Dropped}
use Rattle.xs_stays.specs.Stays.{Stay, stay_at, no_drawing, stay_or, either, stay_staying, less}

pub same_flags : (f g : List Bool) → pointwise beq f g ≡ true → f ≡ g
same_flags [] [] same = refl
same_flags [] (b ∷ g) same = cc
same_flags (a ∷ f) [] same = cc
same_flags (a ∷ f) (b ∷ g) same =
    let both = and_parts (beq a b) (pointwise beq f g) same in
    ap₂ (λ (x : Bool) (xs : List Bool). x ∷ xs) ((booleans_Decides a b).0 both.0) (same_flags f g both.1)

slice_get-index_or : {X : Type 0} (xs : List X) (k : ℕ) (x d : X) → slice_get xs k ≡ Some x → slice_index_or xs k d ≡ x
slice_get-index_or [] k x d is = cc
slice_get-index_or (y ∷ ys) zero x d is = cc
slice_get-index_or (y ∷ ys) (suc k) x d is = slice_get-index_or ys k x d is

-- the set that was put has its number
pub set-put :
    (sets : List (List Bool)) (k : ℕ) (f : List Bool)
    → (g : List Bool) × (slice_get sets k ≡ Some g) × (pointwise beq f g ≡ true) → slice_index_or sets k [] ≡ f
set-put sets k f stored =
    slice_get-index_or sets k stored.0 [] stored.1 ∙ sym (same_flags f stored.0 stored.2)

pub keeps-same : (sets : List (List Bool)) → KeepsSets sets sets
keeps-same sets = record { more = omega arith; same = λ k less. refl }

pub keeps-then : (a b c : List (List Bool)) → KeepsSets a b → KeepsSets b c → KeepsSets a c
keeps-then a b c first second =
    record {
      more = omega (arith, first.more, second.more);
      same = λ k less. second.same k (omega (arith, first.more)) ∙ first.same k less;
    }

pub styles-kept : (old new : List (List Bool)) (k : ℕ) → KeepsSets old new → k < length old → styles_of new k ≡ styles_of old k
styles-kept old new k kept less = ap styles_in (kept.same k less)

pub has-kept : (old new : List (List Bool)) (found : Option Found) → KeepsSets old new → HasSet old found → HasSet new found
has-kept old new None kept has = tt
has-kept old new (Some found) kept has = omega (arith, has, kept.more)

pub stay-kept : (old new : List (List Bool)) (found : Option Found) → KeepsSets old new → HasSet old found → stay_of new found ≡ stay_of old found
stay-kept old new None kept has = refl
stay-kept old new (Some found) kept has =
    ap (λ (counts : ℕ → Bool). Some (record { drawing = found.drawing; counts = counts })) (styles-kept old new found.styles kept has)

pub found-kept :
    (old new : List (List Bool)) (found : Option Found) (stay : Option Stay) → KeepsSets old new → IsFound old found stay → IsFound new found stay
found-kept old new found stay kept is =
    record { within = has-kept old new found kept is.within; is = stay-kept old new found kept is.within ∙ is.is }

all-kept :
    (s : SceneRecord) (old new : List (List Bool)) (es : List (Spot × Option Found)) → KeepsSets old new
    → All (λ e. IsFound old e.1 (stay_at s e.0)) es → All (λ e. IsFound new e.1 (stay_at s e.0)) es
all-kept s old new [] kept all = All-nil (λ e. IsFound new e.1 (stay_at s e.0))
all-kept s old new (e ∷ es) kept all =
    All-cons (λ e. IsFound new e.1 (stay_at s e.0)) e es
    (found-kept old new e.1 (stay_at s e.0) kept (All-head (λ e. IsFound old e.1 (stay_at s e.0)) e es all))
    (all-kept s old new es kept (All-tail (λ e. IsFound old e.1 (stay_at s e.0)) e es all))

-- what was right stays right
pub right-numbers : (s : SceneRecord) (old new : Remembered) → Numbers old new → AreRight s old → AreRight s new
right-numbers s old new numbers right =
    subst (λ (es : List (Spot × Option Found)). All (λ e. IsFound new.sets.keys e.1 (stay_at s e.0)) es) (sym numbers.known)
    (all-kept s old.sets.keys new.sets.keys old.known.entries numbers.kept right)

pub numbers-same : (r : Remembered) → Numbers r r
numbers-same r = record { known = refl; kept = keeps-same r.sets.keys }

pub numbers-then : (a b c : Remembered) → Numbers a b → Numbers b c → Numbers a c
numbers-then a b c first second =
    record { known = second.known ∙ first.known; kept = keeps-then a.sets.keys b.sets.keys c.sets.keys first.kept second.kept }

-- ---- what is found of pairs and filters

pub none-of : (sets : List (List Bool)) (found : Option Found) → is_none found ≡ is_none (stay_of sets found)
none-of sets None = refl
none-of sets (Some found) = refl

pub found-joined :
    (sets new : List (List Bool)) (first second found : Found) → found.styles < length new
    → found.drawing ≡ (first.drawing || second.drawing)
    → styles_of new found.styles ≡ (λ style. styles_of sets first.styles style || styles_of sets second.styles style)
    → IsFound new (Some found) (Some (either (stay_or (stay_of sets (Some first))) (stay_or (stay_of sets (Some second)))))
found-joined sets new first second found within drawing counts =
    record {
      within = within;
      is = ap₂ (λ (drawing : Bool) (counts : ℕ → Bool). Some (record { drawing = drawing; counts = counts })) drawing counts;
    }

pub found-filtered :
    (sets new : List (List Bool)) (f : Dropped) (found : Found) (k : ℕ) → k < length new
    → styles_of new k ≡ (λ style. styles_of sets found.styles style && not (f style))
    → IsFound new (Some (record found { styles = k })) (less f (stay_of sets (Some found)))
found-filtered sets new f found k within counts =
    record {
      within = within;
      is = ap (λ (counts : ℕ → Bool). Some (record { drawing = found.drawing; counts = counts })) counts;
    }

pub less-found :
    (sets new : List (List Bool)) (f : Dropped) (found r : Option Found) (stay : Option Stay) → IsFound sets found stay
    → IsFound new r (less f (stay_of sets found)) → IsFound new r (less f stay)
less-found sets new f found r stay was is = record { within = is.within; is = is.is ∙ ap (less f) was.is }

pub pair-found :
    (sets new : List (List Bool)) (op : Op) (a b r : Option Found) (x y : Option Stay) → IsFound sets a x → IsFound sets b y
    → IsFound new r (stay_staying (staying op (is_none a) (is_none b)) (stay_of sets a) (stay_of sets b))
    → IsFound new r (stay_staying (staying op (is_none x) (is_none y)) x y)
pair-found sets new op a b r x y first second is =
    record {
      within = is.within;
      is =
          is.is
          ∙ ap₂ (λ p q. stay_staying (staying op p q) (stay_of sets a) (stay_of sets b)) (none-of sets a) (none-of sets b)
          ∙ ap₂ (λ p q. stay_staying (staying op (is_none p) (is_none q)) p q) first.is second.is;
    }

pub found-card :
    (sets : List (List Bool)) (k : ℕ) (set : List Bool) (seen clear : Bool) → k < length sets → styles_of sets k ≡ styles_in set → set ≡ []
    → seen ≡ true → seen ≡ not clear
    → IsFound sets (Some (record { drawing = false; styles = k })) (cond clear None (Some no_drawing))
found-card sets k set seen true within counts empty is same = absurd (false≢true (sym same ∙ is))
found-card sets k set seen false within counts empty is same =
    record {
      within = within;
      is = ap (λ (counts : ℕ → Bool). Some (record { drawing = false; counts = counts })) (counts ∙ ap styles_in empty ∙ fun_ext (λ style. refl));
    }
