-- Each code is told exactly where its own fault is the first that is looked for.
use Rattle.std.proofs.Common.{◌≡◌, ◌<◌, ◌+◌, ◌⊎◌, ◌↔◌, ◌∙◌, ℕ, zero, suc, true, List, [], ◌∷◌, Some, None, map, refl, sym, ap, subst, inl, inr, arith}
use Rattle.xs_fault.specs.Paths.{index_at}
use Rattle.xs_fault.specs.declared.code.SceneCode.{SceneCode}
use Rattle.xs_fault.specs.declared.code.SceneCode.TheVariants as code
use Rattle.xs_fault.specs.declared.fault.SceneFault.{SceneFault}
use Rattle.xs_scene.specs.Records.{SceneRecord}
use Rattle.xs_check.specs.Finding.{Finding, or_else, each_from, in_list}
use Rattle.xs_check.specs.Codes.{is_of_checking}
use Rattle.xs_check.specs.Links.{parent_links, sheet_links}
use Rattle.xs_check.specs.Passes as pass
use Rattle.xs_check.specs.Passes.{first_fault}
use Rattle.xs_check.specs.Told.{IsAt, IsFirstFault, IsNowhere, HasLengths, HasReferences, StandsApart, HasNoPegCycle, HasNoNodeCycle, HasNoCycle, HasNoFault, Tells, IsTooLong, IsLacking, IsTaken, IsPegCycle, IsNodeCycle, IsSheetCycle, IsLongChain}
use Rattle.xs_check.proofs.Goods.{CyclesTold, ChainsTold, both_none}
use Rattle.xs_check.proofs.Only.{Only}
use Rattle.xs_check.proofs.Telling.{long_told, lacking_told, taken_told, pegs_told, nodes_told, sheets_told, chains_told}
use Rattle.xs_check.proofs.Clear.{none_too_long, none_lacking, none_taken, none_peg_cycle, none_node_cycle, none_sheet_cycle, none_long_chain}

-- ---- one check after another

either_found : (first second : Finding) (fault : SceneFault) → or_else first second ≡ Some fault
    → (first ≡ Some fault) ⊎ ((first ≡ None) × (second ≡ Some fault))
either_found None second fault found = inr (refl, found)
either_found (Some here) second fault found = inl found

found_first : (first second : Finding) (fault : SceneFault) → first ≡ Some fault → or_else first second ≡ Some fault
found_first first second fault found = ap (λ (f : Finding). or_else f second) found

found_later : (first second found : Finding) → first ≡ None → second ≡ found → or_else first second ≡ found
found_later first second found none later = ap (λ (f : Finding). or_else f second) none ∙ later

-- what one pass finds: nothing exactly where nothing of its kind is wrong
module _ (code : SceneCode) (Wrong : List ℕ → Type 0) where
  finds_nothing : (found : Finding) → Only code Wrong found → IsNowhere Wrong → found ≡ None
  finds_nothing None only nowhere = refl
  finds_nothing (Some fault) only nowhere = absurd (nowhere fault.path (only fault refl).1)

  finds_one : (found : Finding) → Only code Wrong found → (found ≡ None → IsNowhere Wrong) → (at : List ℕ) → Wrong at
      → (fault : SceneFault) × (found ≡ Some fault) × (fault.code ≡ code)
  finds_one None only clear at wrong = absurd (clear refl at wrong)
  finds_one (Some fault) only clear at wrong = (fault, refl, (only fault refl).0)

module _ (cycles : CyclesTold) (chains : ChainsTold) (s : SceneRecord) where
  abbrev pegs : Finding
  pegs = pass.peg_cycle_fault (map parent_links s.sheets)

  abbrev nodes : Finding
  nodes = pass.node_cycle_fault s

  abbrev sheets : Finding
  sheets = pass.sheet_cycle_fault (sheet_links s.sheets)

  abbrev long : Finding
  long = pass.chain_fault (map parent_links s.sheets) (sheet_links s.sheets)

  -- what is found from the last pass, from the one before it, and so on
  abbrev from_sheets : Finding
  from_sheets = or_else sheets long

  abbrev from_nodes : Finding
  from_nodes = or_else nodes from_sheets

  abbrev from_pegs : Finding
  from_pegs = or_else pegs from_nodes

  abbrev from_overlaps : Finding
  from_overlaps = or_else (pass.overlap_fault s) from_pegs

  abbrev from_references : Finding
  from_references = or_else (pass.reference_fault s) from_overlaps

  -- ---- a fault that is found is told rightly

  told_as : (fault : SceneFault) (code : SceneCode) → fault.code ≡ code → Tells s code fault.path → Tells s fault.code fault.path
  told_as fault code is tells = subst (λ (c : SceneCode). Tells s c fault.path) (sym is) tells

  module _ (fault : SceneFault) where
    tells_sheets : HasNoNodeCycle s → from_sheets ≡ Some fault → Tells s fault.code fault.path
    tells_sheets before found =
        elim (either_found sheets long fault found) [
          | inl here ↦ let told = sheets_told cycles chains s fault here in told_as fault code.SheetCycle told.0 (before, told.1)
          | inr later ↦
              let told = chains_told cycles chains s fault later.1 in
              told_as fault code.TooMany told.0 (inr (record { before = before; sheets = none_sheet_cycle cycles s later.0 }, told.1))
        ]

    tells_nodes : HasNoPegCycle s → from_nodes ≡ Some fault → Tells s fault.code fault.path
    tells_nodes before found =
        elim (either_found nodes from_sheets fault found) [
          | inl here ↦ let told = nodes_told cycles chains s fault here in told_as fault code.NodeCycle told.0 (before, told.1)
          | inr later ↦ tells_sheets (record { before = before; nodes = none_node_cycle cycles s later.0 }) later.1
        ]

    tells_pegs : StandsApart s → from_pegs ≡ Some fault → Tells s fault.code fault.path
    tells_pegs before found =
        elim (either_found pegs from_nodes fault found) [
          | inl here ↦ let told = pegs_told cycles chains s fault here in told_as fault code.PegCycle told.0 (before, told.1)
          | inr later ↦ tells_nodes (record { before = before; pegs = none_peg_cycle cycles s later.0 }) later.1
        ]

    tells_overlaps : HasReferences s → from_overlaps ≡ Some fault → Tells s fault.code fault.path
    tells_overlaps before found =
        elim (either_found (pass.overlap_fault s) from_pegs fault found) [
          | inl here ↦ let told = taken_told s fault here in told_as fault code.Overlap told.0 (before, told.1)
          | inr later ↦ tells_pegs (record { before = before; apart = none_taken s later.0 }) later.1
        ]

    tells_references : HasLengths s → from_references ≡ Some fault → Tells s fault.code fault.path
    tells_references before found =
        elim (either_found (pass.reference_fault s) from_overlaps fault found) [
          | inl here ↦ let told = lacking_told s fault here in told_as fault code.NoSuchReference told.0 (before, told.1)
          | inr later ↦ tells_overlaps (record { before = before; references = none_lacking s later.0 }) later.1
        ]

    pub first_tells : first_fault s ≡ Some fault → Tells s fault.code fault.path
    first_tells found =
        elim (either_found (pass.size_fault s) from_references fault found) [
          | inl here ↦ let told = long_told s fault here in told_as fault code.TooMany told.0 (inl told.1)
          | inr later ↦ tells_references (record { lengths = none_too_long s later.0 }) later.1
        ]

  -- ---- nothing is found where nothing is wrong

  none_found : first_fault s ≡ None → HasNoFault s
  none_found none =
      let by_sizes = both_none (pass.size_fault s) from_references none in
      let by_references = both_none (pass.reference_fault s) from_overlaps by_sizes.1 in
      let by_overlaps = both_none (pass.overlap_fault s) from_pegs by_references.1 in
      let by_pegs = both_none pegs from_nodes by_overlaps.1 in
      let by_nodes = both_none nodes from_sheets by_pegs.1 in
      let by_sheets = both_none sheets long by_nodes.1 in
      let lengths : HasLengths s = record { lengths = none_too_long s by_sizes.0 } in
      let references : HasReferences s = record { before = lengths; references = none_lacking s by_references.0 } in
      let apart : StandsApart s = record { before = references; apart = none_taken s by_overlaps.0 } in
      let no_pegs : HasNoPegCycle s = record { before = apart; pegs = none_peg_cycle cycles s by_pegs.0 } in
      let no_nodes : HasNoNodeCycle s = record { before = no_pegs; nodes = none_node_cycle cycles s by_nodes.0 } in
      let no_sheets : HasNoCycle s = record { before = no_nodes; sheets = none_sheet_cycle cycles s by_sheets.0 } in
      record { before = no_sheets; chains = none_long_chain chains s by_sheets.1 }

  -- the passes before one find nothing
  after_lengths : HasLengths s → (found : Finding) → from_references ≡ found → first_fault s ≡ found
  after_lengths before found later =
      found_later (pass.size_fault s) from_references found (finds_nothing code.TooMany (IsTooLong s) (pass.size_fault s) (long_told s) before.lengths) later

  after_references : HasReferences s → (found : Finding) → from_overlaps ≡ found → first_fault s ≡ found
  after_references before found later =
      after_lengths before.before found
      (found_later (pass.reference_fault s) from_overlaps found
      (finds_nothing code.NoSuchReference (IsLacking s) (pass.reference_fault s) (lacking_told s) before.references) later)

  after_overlaps : StandsApart s → (found : Finding) → from_pegs ≡ found → first_fault s ≡ found
  after_overlaps before found later =
      after_references before.before found
      (found_later (pass.overlap_fault s) from_pegs found
      (finds_nothing code.Overlap (IsTaken s) (pass.overlap_fault s) (taken_told s) before.apart) later)

  after_pegs : HasNoPegCycle s → (found : Finding) → from_nodes ≡ found → first_fault s ≡ found
  after_pegs before found later =
      after_overlaps before.before found
      (found_later pegs from_nodes found (finds_nothing code.PegCycle (IsPegCycle s) pegs (pegs_told cycles chains s) before.pegs) later)

  after_nodes : HasNoNodeCycle s → (found : Finding) → from_sheets ≡ found → first_fault s ≡ found
  after_nodes before found later =
      after_pegs before.before found
      (found_later nodes from_sheets found (finds_nothing code.NodeCycle (IsNodeCycle s) nodes (nodes_told cycles chains s) before.nodes) later)

  after_sheets : HasNoCycle s → (found : Finding) → long ≡ found → first_fault s ≡ found
  after_sheets before found later =
      after_nodes before.before found
      (found_later sheets long found (finds_nothing code.SheetCycle (IsSheetCycle s) sheets (sheets_told cycles chains s) before.sheets) later)

  nothing_found : HasNoFault s → first_fault s ≡ None
  nothing_found good =
      after_sheets good.before None (finds_nothing code.TooMany (IsLongChain s) long (chains_told cycles chains s) good.chains)

  pub none_exactly : (first_fault s ≡ None) ↔ HasNoFault s
  none_exactly = (none_found, nothing_found)

  -- ---- what is wrong first is told with its code

  abbrev Told : SceneCode → Type 0
  Told code = (fault : SceneFault) × (first_fault s ≡ Some fault) × (fault.code ≡ code)

  pub wrong_told : (code : SceneCode) (at : List ℕ) → Tells s code at → Told code
  wrong_told code.TooMany at (inl wrong) =
      let (fault, found, is) = finds_one code.TooMany (IsTooLong s) (pass.size_fault s) (long_told s) (none_too_long s) at wrong in
      (fault, found_first (pass.size_fault s) from_references fault found, is)
  wrong_told code.TooMany at (inr (before, wrong)) =
      let (fault, found, is) = finds_one code.TooMany (IsLongChain s) long (chains_told cycles chains s) (none_long_chain chains s) at wrong in
      (fault, after_sheets before (Some fault) found, is)
  wrong_told code.NoSuchReference at (before, wrong) =
      let (fault, found, is) = finds_one code.NoSuchReference (IsLacking s) (pass.reference_fault s) (lacking_told s) (none_lacking s) at wrong in
      (fault, after_lengths before (Some fault) (found_first (pass.reference_fault s) from_overlaps fault found), is)
  wrong_told code.Overlap at (before, wrong) =
      let (fault, found, is) = finds_one code.Overlap (IsTaken s) (pass.overlap_fault s) (taken_told s) (none_taken s) at wrong in
      (fault, after_references before (Some fault) (found_first (pass.overlap_fault s) from_pegs fault found), is)
  wrong_told code.PegCycle at (before, wrong) =
      let (fault, found, is) = finds_one code.PegCycle (IsPegCycle s) pegs (pegs_told cycles chains s) (none_peg_cycle cycles s) at wrong in
      (fault, after_overlaps before (Some fault) (found_first pegs from_nodes fault found), is)
  wrong_told code.NodeCycle at (before, wrong) =
      let (fault, found, is) = finds_one code.NodeCycle (IsNodeCycle s) nodes (nodes_told cycles chains s) (none_node_cycle cycles s) at wrong in
      (fault, after_pegs before (Some fault) (found_first nodes from_sheets fault found), is)
  wrong_told code.SheetCycle at (before, wrong) =
      let (fault, found, is) = finds_one code.SheetCycle (IsSheetCycle s) sheets (sheets_told cycles chains s) (none_sheet_cycle cycles s) at wrong in
      (fault, after_nodes before (Some fault) (found_first sheets long fault found), is)
  wrong_told code at tells = absurd (tells)

  pub one_told : (code : SceneCode) (at : List ℕ) → Tells s code at → ((other : List ℕ) → Tells s code other → other ≡ at)
      → first_fault s ≡ Some (record { code = code; path = at })
  one_told code at tells one =
      let (fault, found, is) = wrong_told code at tells in
      let there = one fault.path (subst (λ (c : SceneCode). Tells s c fault.path) is (first_tells fault found)) in
      found ∙ ap (λ (c : SceneCode). Some (record { code = c; path = fault.path })) is
      ∙ ap (λ (path : List ℕ). Some (record { code = code; path = path })) there

pub tells_checked : (s : SceneRecord) (code : SceneCode) (at : List ℕ) → Tells s code at → is_of_checking code ≡ true
tells_checked s code.TooMany at tells = refl
tells_checked s code.NoSuchReference at tells = refl
tells_checked s code.Overlap at tells = refl
tells_checked s code.PegCycle at tells = refl
tells_checked s code.NodeCycle at tells = refl
tells_checked s code.SheetCycle at tells = refl
tells_checked s code at tells = absurd (tells)

-- ---- lists

module _ {A : Type 0} (F : ℕ → A → Finding) where
  each_before : (x : A) (xs : List A) (k i : ℕ) → F k x ≡ None → ((j : ℕ) (y : A) → j < i → IsAt xs j y → F (k + 1 + j) y ≡ None)
      → (j : ℕ) (y : A) → j < suc i → IsAt (x ∷ xs) j y → F (k + j) y ≡ None
  each_before x xs k i none before zero y early at =
      let same : k ≡ k + 0 = omega arith in
      let is : x ≡ y = cc in
      subst (λ (y : A). F (k + 0) y ≡ None) is (subst (λ (n : ℕ). F n x ≡ None) same none)
  each_before x xs k i none before (suc j) y early at =
      let same : k + 1 + j ≡ k + suc j = omega arith in
      subst (λ (n : ℕ). F n y ≡ None) same (before j y (omega arith) at)

  each_first : (xs : List A) (k : ℕ) (fault : SceneFault) → each_from F k xs ≡ Some fault
      → (i : ℕ) × (x : A) × IsAt xs i x × (F (k + i) x ≡ Some fault) × ((j : ℕ) (y : A) → j < i → IsAt xs j y → F (k + j) y ≡ None)
  each_first [] k fault found = absurd (cc)
  each_first (x ∷ xs) k fault found =
      elim (either_found (F k x) (each_from F (k + 1) xs) fault found) [
        | inl here ↦
            let same : k ≡ k + 0 = omega arith in
            (0, x, refl, subst (λ (n : ℕ). F n x ≡ Some fault) same here, λ j y early at. absurd (omega arith))
        | inr later ↦
            let (i, y, at, finds, before) = each_first xs (k + 1) fault later.1 in (
              suc i,
              y,
              at,
              (let same : k + 1 + i ≡ k + suc i = omega arith in subst (λ (n : ℕ). F n y ≡ Some fault) same finds),
              each_before x xs k i later.0 before,
            )
      ]

pub in_list_first : {A : Type 0} (at : List ℕ) (F : List ℕ → A → Finding) (xs : List A) (fault : SceneFault) → in_list at F xs ≡ Some fault
    → IsFirstFault at F xs fault
unfolding in_list
in_list_first at F xs fault found =
    let (i, x, is, finds, before) = each_first (λ i x. F (index_at at i) x) xs 0 fault found in
    let same : (j : ℕ) → 0 + j ≡ j = λ j. omega arith in
    record {
      number = i;
      element = x;
      is = is;
      finds = subst (λ (n : ℕ). F (index_at at n) x ≡ Some fault) (same i) finds;
      before = λ j y early there. subst (λ (n : ℕ). F (index_at at n) y ≡ None) (same j) (before j y early there);
    }
