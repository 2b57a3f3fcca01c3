-- Whether a node lies on a cycle is tested: a path leads through nodes below one more and more numbers.
use Rattle.std.proofs.Common.{◌≡◌, ◌<◌, ◌⊎◌, ◌&&◌, ◌||◌, ◌↔◌, ℕ, zero, suc, Bool, true, false, [], Contains, Decides, length, refl, sym, subst, inl, inr, arith}
use Rattle.std.proofs.lemmas.Bool.{cases_lt, eqb-true}
use Rattle.std.proofs.lemmas.Cmp.{nat_eq_equiv}
use Rattle.std.proofs.lemmas.Map.Views.{Contains-from_any, list_any-from_Contains}
use Rattle.std.proofs.lemmas.List.{get_or_past}
use Rattle.xs_graph.specs.Paths.{Links, successors, Leads, Reaches, LiesOnCycle}
use Rattle.xs_graph.specs.Cycles.{leads_through, lies_on_cycle}

-- a path of one step or more whose nodes between the ends are all below a number
Through : Links → ℕ → ℕ → ℕ → Type 0
Through links zero a b = Contains (successors links a) b
Through links (suc k) a b = Through links k a b ⊎ (Through links k a k × Through links k k b)

both_decided : (P Q : Type 0) (p q : Bool) → Decides p P → Decides q Q → Decides (p && q) (P × Q)
both_decided P Q true q p_is q_is = (λ yes. (p_is.0 refl, q_is.0 yes), λ both. q_is.1 both.1)
both_decided P Q false q p_is q_is = (λ no. absurd (cc), λ both. p_is.1 both.0)

either_decided : (P Q : Type 0) (p q : Bool) → Decides p P → Decides q Q → Decides (p || q) (P ⊎ Q)
either_decided P Q true q p_is q_is = (λ yes. inl (p_is.0 refl), λ either. refl)
either_decided P Q false q p_is q_is =
    (λ yes. inr (q_is.0 yes), λ either. elim either [ inl holds ↦ absurd (let no = p_is.1 holds in cc) | inr holds ↦ q_is.1 holds ])

through_decided : (links : Links) (k a b : ℕ) → Decides (leads_through links k a b) (Through links k a b)
unfolding Through leads_through
through_decided links zero a b =
    (Contains-from_any eqb-true b (successors links a), list_any-from_Contains nat_eq_equiv b (successors links a))
through_decided links (suc k) a b =
    either_decided _ _ _ _ (through_decided links k a b)
    (both_decided _ _ _ _ (through_decided links k a k) (through_decided links k k b))

-- ---- such a path is a path

joined : (links : Links) (steps a b c : ℕ) → Leads links steps a b → Reaches links b c → Reaches links a c
unfolding Leads
joined links zero a b c path rest = subst (λ (x : ℕ). Reaches links x c) (sym path) rest
joined links (suc steps) a b c (d, targets, path) rest =
    let later = joined links steps d b c path rest in
    record { steps = suc later.steps; path = (d, targets, later.path) }

through_reaches : (links : Links) (k a b : ℕ) → Through links k a b → Reaches links a b
unfolding Through Leads
through_reaches links zero a b targets = record { steps = 0; path = (b, targets, refl) }
through_reaches links (suc k) a b (inl through) = through_reaches links k a b through
through_reaches links (suc k) a b (inr (there, on)) =
    let first = through_reaches links k a k there in
    joined links (suc first.steps) a k b first.path (through_reaches links k k b on)

-- ---- a path is such a path

through_named : (links : Links) (k a b : ℕ) → Contains (successors links a) b → Through links k a b
unfolding Through
through_named links zero a b targets = targets
through_named links (suc k) a b targets = inl (through_named links k a b targets)

to_last : (links : Links) (k a : ℕ) → Through links (suc k) a k → Through links k a k
unfolding Through
to_last links k a (inl through) = through
to_last links k a (inr (there, on)) = there

from_last : (links : Links) (k b : ℕ) → Through links (suc k) k b → Through links k k b
unfolding Through
from_last links k b (inl through) = through
from_last links k b (inr (there, on)) = on

join_last : (links : Links) (k a c b : ℕ) → c ≡ k → Through links (suc k) a c → Through links (suc k) c b → Through links (suc k) a b
unfolding Through
join_last links k a c b is there on = inr (
  to_last links k a (subst (λ (x : ℕ). Through links (suc k) a x) is there),
  from_last links k b (subst (λ (x : ℕ). Through links (suc k) x b) is on),
)

-- paths join at a node below the number
Joins : Links → ℕ → ℕ → Type 0
Joins links k c = (a b : ℕ) → Through links k a c → Through links k c b → Through links k a b

join_earlier : (links : Links) (k c : ℕ) → Joins links k c → Joins links (suc k) c
unfolding Through Joins
join_earlier links k c joins a b (inl p) (inl q) = inl (joins a b p q)
join_earlier links k c joins a b (inl p) (inr (q, r)) = inr (joins a k p q, r)
join_earlier links k c joins a b (inr (p, q)) (inl r) = inr (p, joins k b q r)
join_earlier links k c joins a b (inr (p, q)) (inr (r, t)) = inr (p, t)

joins_below : (links : Links) (k c : ℕ) → c < k → Joins links k c
unfolding Joins
joins_below links zero c below = absurd (omega arith)
joins_below links (suc k) c below =
    elim (cases_lt c k) [
      | inl earlier ↦ join_earlier links k c (joins_below links k c earlier)
      | inr last ↦ λ a b there on. join_last links k a c b (omega arith) there on
    ]

-- a number past the end is of no node, and links to none
linking_is_below : (links : Links) (a b : ℕ) → Contains (successors links a) b → a < length links
linking_is_below links a b (k, inside, is) =
    elim (cases_lt a (length links)) [
      | inl below ↦ below
      | inr past ↦
          let none : length (successors links a) ≡ 0 = rw (get_or_past links a [] past) refl in
          absurd (omega arith)
    ]

path_through : (links : Links) (steps a b : ℕ) → Leads links (suc steps) a b → Through links (length links) a b
unfolding Leads Joins
path_through links zero a b (c, targets, is) =
    through_named links _ a b (subst (λ (x : ℕ). Contains (successors links a) x) is targets)
path_through links (suc steps) a b (c, targets, (d, next, path)) =
    joins_below links _ c (linking_is_below links c d next) a b
    (through_named links _ a c targets) (path_through links steps c b (d, next, path))

pub cycle_told : (links : Links) (a : ℕ) → (lies_on_cycle links a ≡ true) ↔ LiesOnCycle links a
cycle_told links a =
    let told = through_decided links (length links) a a in
    (λ yes. through_reaches links (length links) a a (told.0 yes), λ cycle. told.1 (path_through links cycle.steps a a cycle.path))
