-- What a search in a list in order finds is what a definition chooses from the list as it stands
use Rattle.std.proofs.Common.{◌≡◌, ◌≤◌, ◌<◌, ◌-◌, ℕ, zero, true, false, Option, Some, None, List, All, AllPairs, Contains, MatchOption, get_or, pos, refl, sym, ap, ◌∙◌, subst, inl, inr, le_antisymm, arith}
use Rattle.std.specs.List.Sorted.{IsPermutation}
use Rattle.std.proofs.lemmas.Bool.{cases_lt, cases_Bool, le-leb, and_from}
use Rattle.std.proofs.lemmas.Bool.Decides.{nat_tests}
use Rattle.std.proofs.lemmas.List.{get_or_default}
use Rattle.std.proofs.lemmas.List.Elements.{All-contains, All-contains_itself}
use Rattle.std.proofs.lemmas.List.Sorted.{All-permutation, Contains-permutation, IsPermutation-sym}
use Rattle.xs_scene.specs.declared.seen.Seen.TheVariants.{Empty}
use Rattle.xs_scene.specs.Records.{ColumnRecord, ColoursRecord, ExposureRecord, PegKeyRecord, StyleKeyRecord}
use Rattle.xs_meaning.specs.Cells.{cell_at, covers, shown_after}
use Rattle.xs_meaning.specs.Chosen.{IsOnlyAt, IsKeyInForce, IsKeyAfter, HasDistinctRows, IsStyleKeyInForce}
use Rattle.xs_meaning.specs.Places.{own_offset, offset_by, offset_from, key_in_force, key_after}
use Rattle.xs_pixel.specs.Points.{Point, point}
use Rattle.xs_index.specs.Apart.{AreApart, DifferInRow, DifferInRowOrStyle}
use Rattle.xs_index.specs.Order.{IsLast, IsNext}

-- of a list whose items are apart, two items that are not apart are one
pairs_same :
    {X : Type 0} (R : X → X → Type 0) (xs : List X) (a b : X) → AllPairs R xs → Contains xs a → Contains xs b
    → (R a b → ⊥) → (R b a → ⊥) → a ≡ b
pairs_same R xs a b pairs in_a in_b forth back =
    elim (cases_lt in_a.0 in_b.0) [
      | inl before ↦
          absurd
          (forth (subst (λ x. R x b) in_a.2
          (subst (λ y. R (get_or xs in_a.0 a) y) (get_or_default xs in_b.0 a b in_b.1 ∙ in_b.2) (pairs in_a.0 in_b.0 a before in_b.1))))
      | inr rest ↦
          elim (cases_lt in_b.0 in_a.0) [
            | inl after ↦
                absurd
                (back (subst (λ x. R x a) in_b.2
                (subst (λ y. R (get_or xs in_b.0 b) y) (get_or_default xs in_a.0 b a in_a.1 ∙ in_a.2) (pairs in_b.0 in_a.0 b after in_a.1))))
            | inr same ↦
                let at : in_a.0 ≡ in_b.0 = omega arith in
                sym in_a.2 ∙ ap (λ n. get_or xs n a) at ∙ get_or_default xs in_b.0 a b in_b.1 ∙ in_b.2
          ]
    ]

-- ---- cells

covered : (row : ℕ) (e : ExposureRecord) → covers row e ≡ true → (e.from ≤ row) × (row ≤ e.to)
covered row e is = (grind (arith, nat_tests), grind (arith, nat_tests))

module _ (column : ColumnRecord) (cells : List ExposureRecord) (row : ℕ) (moved : IsPermutation column.cells cells)
    (apart : AllPairs AreApart column.cells) where
  back : IsPermutation cells column.cells
  back = IsPermutation-sym column.cells cells moved

  pub cell_found : ((e : ExposureRecord) → IsOnlyAt column row e → cell_at column row ≡ shown_after (row - e.from) e.shown)
      → (e : ExposureRecord) → IsLast (λ (e : ExposureRecord). 0) (λ e. e.from) 0 row cells e → row ≤ e.to
      → shown_after (row - e.from) e.shown ≡ cell_at column row
  cell_found shown e is here =
      let among : Contains column.cells e = Contains-permutation cells column.cells e back is.among in
      sym (shown e
      (record {
        among = among;
        at_row = and_from _ _ (le-leb e.from row is.begun) (le-leb row e.to here);
        only =
            λ i d below covers_row.
            let other = get_or column.cells i d in
            let at = covered row other covers_row in
            pairs_same AreApart column.cells other e apart (All-contains_itself column.cells i d below) among
            (λ no. no row at.0 at.1 is.begun here) (λ no. no row is.begun here at.0 at.1);
      }))

  pub cell_gap : (All (λ e. covers row e ≡ false) column.cells → cell_at column row ≡ Empty)
      → (e : ExposureRecord) → IsLast (λ (e : ExposureRecord). 0) (λ e. e.from) 0 row cells e → e.from ≤ e.to → e.to < row
      → Empty ≡ cell_at column row
  cell_gap gap e is rows past =
      let among : Contains column.cells e = Contains-permutation cells column.cells e back is.among in
      let last : All (λ k. zero ≡ zero → k.from ≤ row → k.from ≤ e.from) column.cells =
      All-permutation (λ (k : ExposureRecord). zero ≡ zero → k.from ≤ row → k.from ≤ e.from) cells column.cells back is.last
      in
      sym (gap
      (λ i d below.
      let other = get_or column.cells i d in
      elim (cases_Bool (covers row other)) [
        | inl is_covered ↦
            let at = covered row other is_covered in
            let early = last i d below refl at.0 in
            let same : other ≡ e =
            pairs_same AreApart column.cells other e apart (All-contains_itself column.cells i d below) among
            (λ no. no e.from early (omega arith) (omega arith) rows) (λ no. no e.from (omega arith) rows early (omega arith))
            in
            let to : other.to ≡ e.to = ap (λ (x : ExposureRecord). x.to) same in
            absurd (omega arith)
        | inr free ↦ free
      ]))

  pub cell_none : (All (λ e. covers row e ≡ false) column.cells → cell_at column row ≡ Empty)
      → All (λ (k : ExposureRecord). zero ≡ zero → row < k.from) cells → Empty ≡ cell_at column row
  cell_none gap late =
      let all = All-permutation (λ (k : ExposureRecord). zero ≡ zero → row < k.from) cells column.cells back late in
      sym (gap
      (λ i d below.
      let other = get_or column.cells i d in
      elim (cases_Bool (covers row other)) [
        | inl is_covered ↦
            let at = covered row other is_covered in
            let after = all i d below refl in
            absurd (omega arith)
        | inr free ↦ free
      ]))

-- ---- keys of a peg

distinct : (list : List PegKeyRecord) → AllPairs DifferInRow list → HasDistinctRows list
distinct list differ k other in_k in_other same =
    pairs_same DifferInRow list k other differ in_k in_other (λ no. no same) (λ no. no (sym same))

module _ (list keys : List PegKeyRecord) (row : ℕ) (moved : IsPermutation list keys) (differ : AllPairs DifferInRow list)
    (told_in_force : MatchOption (key_in_force list row) (All (λ k. row < k.row) list) (IsKeyInForce list row))
    (only_in_force : (a : PegKeyRecord) → HasDistinctRows list → IsKeyInForce list row a → key_in_force list row ≡ Some a)
    (told_after : MatchOption (key_after list row) (All (λ k. k.row ≤ row) list) (IsKeyAfter list row))
    (only_after : (b : PegKeyRecord) → HasDistinctRows list → IsKeyAfter list row b → key_after list row ≡ Some b) where
  key_back : IsPermutation keys list
  key_back = IsPermutation-sym list keys moved

  in_force : (a : PegKeyRecord) → IsLast (λ (k : PegKeyRecord). 0) (λ k. k.row) 0 row keys a → key_in_force list row ≡ Some a
  in_force a is =
      only_in_force a (distinct list differ)
      (record {
        among = Contains-permutation keys list a key_back is.among;
        begun = is.begun;
        last =
            λ i d below. All-permutation (λ (k : PegKeyRecord). zero ≡ zero → k.row ≤ row → k.row ≤ a.row) keys list key_back is.last i d below refl;
      })

  none_in_force : All (λ (k : PegKeyRecord). zero ≡ zero → row < k.row) keys → key_in_force list row ≡ None
  none_in_force late = none (key_in_force list row) told_in_force
    where
      none : (o : Option PegKeyRecord) → MatchOption o (All (λ k. row < k.row) list) (IsKeyInForce list row) → o ≡ None
      none None all = refl
      none (Some a) is =
          let after = All-contains (λ (k : PegKeyRecord). zero ≡ zero → row < k.row) list a
          (All-permutation (λ (k : PegKeyRecord). zero ≡ zero → row < k.row) keys list key_back late) is.among refl
          in
          let begun = is.begun in
          absurd (omega arith)

  after_is : (next : Option PegKeyRecord)
      → MatchOption next (All (λ (k : PegKeyRecord). zero ≡ zero → k.row ≤ row) keys) (IsNext (λ (k : PegKeyRecord). 0) (λ k. k.row) 0 row keys)
      → key_after list row ≡ next
  after_is None all = none (key_after list row) told_after
    where
      none : (o : Option PegKeyRecord) → MatchOption o (All (λ k. k.row ≤ row) list) (IsKeyAfter list row) → o ≡ None
      none None early = refl
      none (Some b) is =
          let before = All-contains (λ (k : PegKeyRecord). zero ≡ zero → k.row ≤ row) list b
          (All-permutation (λ (k : PegKeyRecord). zero ≡ zero → k.row ≤ row) keys list key_back all) is.among refl
          in
          let later = is.later in
          absurd (omega arith)
  after_is (Some b) is =
      only_after b (distinct list differ)
      (record {
        among = Contains-permutation keys list b key_back is.among;
        later = is.later;
        first =
            λ i d below. All-permutation (λ (k : PegKeyRecord). zero ≡ zero → row < k.row → b.row ≤ k.row) keys list key_back is.first i d below refl;
      })

  pub offset_none : All (λ (k : PegKeyRecord). zero ≡ zero → row < k.row) keys → point (pos 0) (pos 0) ≡ own_offset list row
  unfolding own_offset
  offset_none late = sym (ap (λ o. offset_by o (key_after list row) row) (none_in_force late))

  pub offset_some : (key : PegKeyRecord) (next : Option PegKeyRecord) (at : Point)
      → IsLast (λ (k : PegKeyRecord). 0) (λ k. k.row) 0 row keys key
      → MatchOption next (All (λ (k : PegKeyRecord). zero ≡ zero → k.row ≤ row) keys) (IsNext (λ (k : PegKeyRecord). 0) (λ k. k.row) 0 row keys)
      → at ≡ offset_from key next row → at ≡ own_offset list row
  unfolding own_offset
  offset_some key next at is after offset =
      offset ∙ sym (ap (λ o. offset_by o (key_after list row) row) (in_force key is) ∙ ap (λ o. offset_from key o row) (after_is next after))

-- ---- keys of a palette

module _ (c : ColoursRecord) (keys : List StyleKeyRecord) (style row : ℕ) (moved : IsPermutation c.keys keys)
    (differ : AllPairs DifferInRowOrStyle c.keys) where
  style_back : IsPermutation keys c.keys
  style_back = IsPermutation-sym c.keys keys moved

  pub key_chosen : (found key : Option StyleKeyRecord)
      → MatchOption found (All (λ (k : StyleKeyRecord). k.style ≡ style → row < k.row) keys)
      (IsLast (λ (k : StyleKeyRecord). k.style) (λ k. k.row) style row keys)
      → MatchOption key (All (λ k. k.style ≡ style → row < k.row) c.keys) (IsStyleKeyInForce c.keys row style) → found ≡ key
  key_chosen None None all none = refl
  key_chosen None (Some b) all is =
      let after = All-contains (λ (k : StyleKeyRecord). k.style ≡ style → row < k.row) c.keys b
      (All-permutation (λ (k : StyleKeyRecord). k.style ≡ style → row < k.row) keys c.keys style_back all) is.among is.of_style
      in
      let begun = is.begun in
      absurd (omega arith)
  key_chosen (Some a) None last none =
      let after = All-contains (λ (k : StyleKeyRecord). k.style ≡ style → row < k.row) c.keys a none
      (Contains-permutation keys c.keys a style_back last.among) last.grouped
      in
      let begun = last.begun in
      absurd (omega arith)
  key_chosen (Some a) (Some b) last is =
      let among : Contains c.keys a = Contains-permutation keys c.keys a style_back last.among in
      let up : a.row ≤ b.row =
      All-contains (λ (k : StyleKeyRecord). k.style ≡ style → k.row ≤ row → k.row ≤ b.row) c.keys a is.last among last.grouped last.begun in
      let down : b.row ≤ a.row =
      All-contains (λ (k : StyleKeyRecord). k.style ≡ style → k.row ≤ row → k.row ≤ a.row) c.keys b
      (All-permutation (λ (k : StyleKeyRecord). k.style ≡ style → k.row ≤ row → k.row ≤ a.row) keys c.keys style_back last.last) is.among is.of_style is.begun
      in
      let styles : a.style ≡ b.style = last.grouped ∙ sym is.of_style in
      let rows : a.row ≡ b.row = le_antisymm up down in
      ap Some (pairs_same DifferInRowOrStyle c.keys a b differ among is.among (λ no. no styles rows) (λ no. no (sym styles) (sym rows)))
