use Rattle.std.proofs.Common.{Bor, option_map, ◌≡◌, ◌≢◌, ◌<◌, ◌+◌, ℕ, Bool, true, false, not, cond, ◌||◌, Option, Some, is_some, List, [], All, length, map, get_or, take, refl, sym, ◌∙◌, ap, subst}
use Rattle.std.proofs.lemmas.Bool.{false≢true}
use Rattle.std.proofs.lemmas.List.{get_or_default}
use Rattle.std.proofs.lemmas.List.Folds.{Any-from_list_any, list_any-from_Any, list_any_more}
use Rattle.std.proofs.lemmas.Slice.Eq.{bytes_eq-Decides}
use Rattle.std.proofs.Math.ListN.{get_or-map}
use Rattle.std.specs.BTreeMap.{BTreeMap, get_by}
use Rattle.std.specs.Cmp.Lexicographic.{slice_cmp}
use Rattle.std.specs.List.{list_any, list_all}
use Rattle.std.specs.Ordering.{nat_cmp}
use Rattle.xs_fault.specs.declared.code.SceneCode.TheVariants as code
use Rattle.xs_scene.specs.Records.{LevelRecord}
use Rattle.xs_check.specs.Good.{files_of}
use Rattle.xs_check.specs.Passes.{file_path, file_fault}
use Rattle.xs_base.specs.First.{IsFirstWithout}
use Rattle.xs_check.proofs.Findings.{first_found}
use Rattle.xs_check.proofs.FirstShared.{earlier_decided}
use Rattle.xs_check.proofs.Tests.{texts_decided}
use Rattle.std.specs.Str.{bytes_eq}

-- whether a text is among some
abbrev pub among : List (List ℕ) → List ℕ → Bool
among names q = list_any (λ n. bytes_eq n q) names

or_by : (a b : Bool) → cond b true a ≡ (a || b)
or_by true true = refl
or_by true false = refl
or_by false true = refl
or_by false false = refl

among_more : (names : List (List ℕ)) (d : ℕ) (name q : List ℕ) (was is : Bool) → d < length names → name ≡ get_or names d []
    → was ≡ among (take d names) q → is ≡ cond (bytes_eq name q) true was → is ≡ among (take (d + 1) names) q
among_more names d name q was is below at old new =
    new ∙ ap (λ (a : Bool). cond (bytes_eq name q) true a) old
    ∙ rw (list_any_more (λ n. bytes_eq n q) names d [] below, ← at) (or_by (among (take d names) q) (bytes_eq name q))

among_repeats : (earlier : List (List ℕ)) (name : List ℕ) → among earlier name ≡ true → All (λ e. e ≢ name) earlier → ⊥
among_repeats earlier name found differ =
    let (k, x, below, is, same) = Any-from_list_any (λ n. bytes_eq n name) earlier found in
    differ k x below (is ∙ (bytes_eq-Decides x name).0 same)

not_among_differs : (earlier : List (List ℕ)) (name : List ℕ) → among earlier name ≡ false → All (λ e. e ≢ name) earlier
not_among_differs earlier name none k d below same =
    false≢true
    (sym none
    ∙ list_any-from_Any (λ n. bytes_eq n name) earlier
    (k, get_or earlier k d, below, get_or_default earlier k (get_or earlier k d) d below, (bytes_eq-Decides (get_or earlier k d) name).1 same))

is_some_cond : {X : Type 0} (b : Bool) (x : X) (o : Option X) → is_some (cond b (Some x) o) ≡ cond b true (is_some o)
is_some_cond true x o = refl
is_some_cond false x o = refl

-- ---- the names of drawings

abbrev pub no_text : Bor (List ℕ)
no_text = record { ref_ptr = (0, 0); now = [] }

abbrev pub texts : List (Bor (List ℕ)) → List (List ℕ)
texts files = map (λ f. f.now) files

module _ (files : List (Bor (List ℕ))) (d : ℕ) (known : BTreeMap (Bor (List ℕ)) (Unit {0}))
    (knows : (q : List ℕ) → is_some (get_by (λ k. slice_cmp nat_cmp q k.now) known) ≡ among (take d (texts files)) q) where
  text_is : get_or (texts files) d [] ≡ (get_or files d no_text).now
  text_is = get_or-map (λ (f : Bor (List ℕ)). f.now) files d no_text

  text_among : (old : Option (Unit {0})) (b : Bool) → old ≡ get_by (λ k. slice_cmp nat_cmp (get_or files d no_text).now k.now) known → is_some old ≡ b
      → among (take d (texts files)) (get_or (texts files) d []) ≡ b
  text_among old b is found =
      rw text_is (sym (knows (get_or files d no_text).now) ∙ ap (λ (o : Option (Unit {0})). is_some o) (sym is) ∙ found)

  pub text_repeats : (old : Option (Unit {0})) → old ≡ get_by (λ k. slice_cmp nat_cmp (get_or files d no_text).now k.now) known → is_some old ≡ true
      → All (λ e. e ≢ get_or (texts files) d []) (take d (texts files)) → ⊥
  text_repeats old is found = among_repeats (take d (texts files)) (get_or (texts files) d []) (text_among old true is found)

  pub text_differs : (old : Option (Unit {0})) → old ≡ get_by (λ k. slice_cmp nat_cmp (get_or files d no_text).now k.now) known → is_some old ≡ false
      → All (λ e. e ≢ get_or (texts files) d []) (take d (texts files))
  text_differs old is found = not_among_differs (take d (texts files)) (get_or (texts files) d []) (text_among old false is found)

  pub knows_more : (new : BTreeMap (Bor (List ℕ)) (Unit {0})) → d < length (texts files)
      → ((q : List ℕ) → get_by (λ k. slice_cmp nat_cmp q k.now) new ≡ cond (bytes_eq (get_or files d no_text).now q) (Some tt)
      (get_by (λ k. slice_cmp nat_cmp q k.now) known))
      → (q : List ℕ) → is_some (get_by (λ k. slice_cmp nat_cmp q k.now) new) ≡ among (take (d + 1) (texts files)) q
  knows_more new below updated q =
      among_more (texts files) d (get_or files d no_text).now q (is_some (get_by (λ k. slice_cmp nat_cmp q k.now) known))
      (is_some (get_by (λ k. slice_cmp nat_cmp q k.now) new)) below (sym text_is) (knows q)
      (ap (λ (o : Option (Unit {0})). is_some o) (updated q)
      ∙ is_some_cond (bytes_eq (get_or files d no_text).now q) tt (get_by (λ k. slice_cmp nat_cmp q k.now) known))

pub files_first : (levels : List LevelRecord) (names : List (List ℕ)) (first : Option ℕ) → names ≡ files_of levels
    → IsFirstWithout (λ d. All (λ e. e ≢ get_or names d []) (take d names)) (length names) first
    → file_fault levels ≡ option_map (λ d. record { code = code.Overlap; path = file_path 0 levels d }) first
unfolding file_fault
files_first levels names first are h =
    let named = files_of levels in
    first_found (λ d. All (λ e. e ≢ get_or named d []) (take d named)) (λ d file. list_all (λ earlier. not (bytes_eq earlier file)) (take d named))
    code.Overlap (file_path 0 levels) named
    (λ d e below. earlier_decided (λ (a : List ℕ) (b : List ℕ). a ≢ b) (λ a b. not (bytes_eq a b)) texts_decided named [] e d below)
    first (subst (λ (l : List (List ℕ)). IsFirstWithout (λ d. All (λ e. e ≢ get_or l d []) (take d l)) (length l) first) are h)
