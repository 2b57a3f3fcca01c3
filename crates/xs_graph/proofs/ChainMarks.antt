use Rattle.std.proofs.Common.{◌≡◌, ◌<◌, ◌≤◌, ◌+◌, ◌==◌, ℕ, zero, suc, Bool, true, false, Option, Some, None, List, [], ◌∷◌, All, Contains, length, map, get_or, refl, sym, ◌∙◌, subst, inl, inr, arith}
use Rattle.std.proofs.Math.ListN.{get_or-map}
use Rattle.std.proofs.lemmas.List.{length-map, get_or_past}
use Rattle.std.proofs.Math.Numerals.{add-one}
use Rattle.std.proofs.lemmas.Bool.{false≢true, cases_lt, cases_Bool}
use Rattle.std.proofs.lemmas.Bool.Decides.{nat_tests}
use Rattle.std.proofs.lemmas.List.Folds.{Any-from_list_any, list_any-from_Any}
use Rattle.std.specs.List.{list_any}
use Rattle.xs_base.specs.First.{IsFirstWithout}
use Rattle.xs_graph.specs.Paths.{Links, successors, Leads, HasChain, has_chain, TellChains}

-- ---- chains and their test

chain_by_any : (links : Links) (steps a : ℕ) → ((c : ℕ) → has_chain links steps c ≡ true → HasChain links steps c)
    → list_any (has_chain links steps) (successors links a) ≡ true → HasChain links (suc steps) a
unfolding Leads
chain_by_any links steps a rest h =
    let (k, c, below, is, found) = Any-from_list_any (has_chain links steps) (successors links a) h in
    let chain = rest c found in
    record { end = chain.end; path = (c, (k, below, is), chain.path) }

pub chain_found : (links : Links) (steps a : ℕ) → has_chain links steps a ≡ true → HasChain links steps a
unfolding Leads has_chain
chain_found links zero a h = record { end = a; path = refl }
chain_found links (suc steps) a h = chain_by_any links steps a (chain_found links steps) h

pub chain_told : (links : Links) (steps a b : ℕ) → Leads links steps a b → has_chain links steps a ≡ true
unfolding Leads has_chain
chain_told links zero a b path = refl
chain_told links (suc steps) a b (c, (k, below, is), path) =
    list_any-from_Any (has_chain links steps) (successors links a) (k, c, below, is, chain_told links steps c b path)

no_chain : (links : Links) (steps a : ℕ) → has_chain links steps a ≡ false → HasChain links steps a → ⊥
no_chain links steps a told chain = false≢true (sym told ∙ chain_told links steps a chain.end chain.path)

chain_missing : (links : Links) (steps a : ℕ) → (HasChain links steps a → ⊥) → has_chain links steps a ≡ false
chain_missing links steps a none =
    elim (cases_Bool (has_chain links steps a)) [ inl begins ↦ absurd (none (chain_found links steps a begins)) | inr missing ↦ missing ]

-- a path with one step more at its end
pub leads_on : (links : Links) (steps a b c : ℕ) → Leads links steps a b → Contains (successors links b) c → Leads links (suc steps) a c
unfolding Leads
leads_on links zero a b c is targets = (c, subst (λ (x : ℕ). Contains (successors links x) c) (sym is) targets, refl)
leads_on links (suc steps) a b c (d, first, path) targets = (d, first, leads_on links steps d b c path targets)

-- ---- marks

pub chains_none : (links : Links) (marks : List Bool) → marks ≡ map (λ targets. true) links → TellChains links 0 marks
unfolding has_chain
chains_none links marks is =
    record {
      length = rw is (length-map links (λ (targets : List ℕ). true));
      told = λ a. rw is (get_or-map (λ (targets : List ℕ). true) links a []);
    }

any_same : (p q : ℕ → Bool) (xs : List ℕ) → ((c : ℕ) → p c ≡ q c) → list_any p xs ≡ list_any q xs
any_same p q [] same = refl
any_same p q (x ∷ xs) same = rw (same x, any_same p q xs same) refl

later_is_inside : (steps : ℕ) → ((steps + 1) == 0) ≡ false
later_is_inside steps = grind (arith, nat_tests)

pub chains_more : (links : Links) (steps : ℕ) (outside : Bool) (marks longer : List Bool) → outside ≡ (steps == 0)
    → TellChains links steps marks
    → longer ≡ map (λ targets. list_any (λ c. get_or marks c outside) targets) links
    → TellChains links (steps + 1) longer
unfolding has_chain
chains_more links steps outside marks longer out tells is =
    record {
      length = rw is (length-map links (λ (targets : List ℕ). list_any (λ c. get_or marks c outside) targets));
      told =
          λ a.
          let same : (c : ℕ) → get_or marks c outside ≡ has_chain links steps c = λ c. rw out (tells.told c) in
          rw (is, later_is_inside steps, add-one steps)
          (get_or-map (λ (targets : List ℕ). list_any (λ c. get_or marks c outside) targets) links a []
          ∙ any_same (λ c. get_or marks c outside) (has_chain links steps) (successors links a) same);
    }

first_by : (links : Links) (steps : ℕ) (marks : List Bool) (first : Option ℕ)
    → ((a : ℕ) → get_or marks a false ≡ has_chain links steps a) → length marks ≡ length links
    → IsFirstWithout (λ i. get_or marks i false ≡ false) (length marks) first
    → IsFirstWithout (λ a. HasChain links steps a → ⊥) (length links) first
first_by links steps marks None told same h = λ i below. no_chain links steps i (sym (told i) ∙ h i (rw same below))
first_by links steps marks (Some i) told same (below, marked, before) = (
  rw (← same) below,
  λ none. marked (told i ∙ chain_missing links steps i none),
  λ j earlier. no_chain links steps j (sym (told j) ∙ before j earlier),
)

pub first_chain : (links : Links) (steps : ℕ) (marks : List Bool) (first : Option ℕ) → 0 < steps → TellChains links steps marks
    → IsFirstWithout (λ i. get_or marks i false ≡ false) (length marks) first
    → IsFirstWithout (λ a. HasChain links steps a → ⊥) (length links) first
first_chain links steps marks first some tells h =
    let inside : (steps == 0) ≡ false = grind (arith, nat_tests) in
    let told : (a : ℕ) → get_or marks a false ≡ has_chain links steps a = λ a. subst
    (λ (b : Bool). get_or marks a b ≡ has_chain links steps a) inside (tells.told a) in
    first_by links steps marks first told tells.length h

-- ---- no chain left

path_begins : (links : Links) (m n a b : ℕ) → m ≤ n → Leads links n a b → has_chain links m a ≡ true
unfolding Leads has_chain
path_begins links zero n a b few path = refl
path_begins links (suc m) zero a b few path = absurd (omega arith)
path_begins links (suc m) (suc n) a b few (c, (k, below, is), path) =
    list_any-from_Any (has_chain links m) (successors links a) (k, c, below, is, path_begins links m n c b (omega arith) path)

-- where no chain of some steps is left there is none of more
pub chains_over : (links : Links) (m n : ℕ) (marks : List Bool) → TellChains links m marks → 0 < m → m ≤ n
    → All (λ mark. mark ≡ false) marks → TellChains links n marks
chains_over links m n marks tells some few none =
    let m_inside : (m == 0) ≡ false = grind (arith, nat_tests) in
    let n_inside : (n == 0) ≡ false = grind (arith, nat_tests) in
    let unmarked : (a : ℕ) → get_or marks a false ≡ false =
    λ a. elim (cases_lt a (length marks)) [ inl below ↦ none a false below | inr past ↦ get_or_past marks a false past ] in
    record {
      length = tells.length;
      told =
          λ a.
          let short : has_chain links m a ≡ false =
          sym (subst (λ (b : Bool). get_or marks a b ≡ has_chain links m a) m_inside (tells.told a)) ∙ unmarked a in
          let long : has_chain links n a ≡ false =
          chain_missing links n a (λ chain. false≢true (sym short ∙ path_begins links m n a chain.end few chain.path)) in
          rw n_inside (unmarked a ∙ sym long);
    }
