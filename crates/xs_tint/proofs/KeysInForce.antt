-- The key in force among keys that are taken one by one
use Rattle.std.proofs.Common.{◌≡◌, ℕ, ◌+◌, ◌<◌, ◌≤◌, Bool, true, false, ◌&&◌, cond, eqb, ltb, leb, length, take, get_or, set, List, Option, Some, None, get_or-set_same, get_or-set_other, length-set, inl, inr, ◌⊎◌, refl, sym, ap, ◌∙◌, subst, arith}
use Rattle.std.proofs.lemmas.Bool.{cases_eq, cases_Bool, lt-ltb, eq-eqb, ne_eqb, and_from, and_left, and_right}
use Rattle.std.specs.Option.{option_map_or}
use Rattle.xs_pixel.specs.declared.style.Style.{Style}
use Rattle.xs_meaning.specs.Palettes.{key_among, keyed}
use Rattle.xs_scene.specs.Records.{StyleKeyRecord}
use Rattle.xs_meaning.specs.Keys.{latest, newest}
use Rattle.xs_meaning.proofs.KeyLemmas.{latest-push, choice-more}
use Rattle.xs_tint.specs.KeysTaken.{AreTaken, sets}

-- where one more key is taken, it may become the one in force
key_among_more :
    (keys : List StyleKeyRecord) (i row style : ℕ) (key : StyleKeyRecord) → i < length keys → key ≡ get_or keys i key
    → key_among (take (i + 1) keys) row style
    ≡ cond (eqb key.style style && leb key.row row) (Some (newest (λ k. k.row) (key_among (take i keys) row style) key)) (key_among (take i keys) row style)
key_among_more keys i row style key within is =
    choice-more (latest (λ k. k.row)) (newest (λ k. k.row)) (latest-push (λ k. k.row)) (λ k. eqb k.style style && leb k.row row) keys i key within is

-- the pixel and the row of the style of the key that is taken
set_to : (o : Option StyleKeyRecord) (key : StyleKeyRecord) (written : Style) (r : ℕ) (s : Style) → 1 ≤ key.row
    → s ≡ keyed o written → r ≡ option_map_or (λ k. k.row) o 0
    → (cond (ltb r key.row) key.to s ≡ keyed (Some (newest (λ k. k.row) o key)) written)
    × (cond (ltb r key.row) key.row r ≡ option_map_or (λ k. k.row) (Some (newest (λ k. k.row) o key)) 0)
set_to None key written r s positive same row =
    let later : ltb r key.row ≡ true = lt-ltb r key.row (omega arith) in
    (ap (λ b. cond b key.to s) later, ap (λ b. cond b key.row r) later)
set_to (Some best) key written r s positive same row = (
  ap (λ n. cond (ltb n key.row) key.to s) row ∙ ap (λ t. cond (ltb best.row key.row) key.to t) same ∙ to (ltb best.row key.row),
  ap (λ n. cond (ltb n key.row) key.row n) row ∙ at (ltb best.row key.row),
)
  where
    to : (b : Bool) → cond b key.to best.to ≡ (cond b key best).to
    to true = refl
    to false = refl

    at : (b : Bool) → cond b key.row best.row ≡ (cond b key best).row
    at true = refl
    at false = refl

-- an element of a list that may have been written at a place
at_place :
    {X : Type 0} (b : Bool) (xs : List X) (place k : ℕ) (x d : X) → k < length xs → place ≡ k
    → get_or (cond b (set xs place x) xs) k d ≡ cond b x (get_or xs k d)
at_place true xs place k x d within same = subst (λ n. get_or (set xs n x) k d ≡ x) (sym same) (get_or-set_same xs k x d within)
at_place false xs place k x d within same = refl

elsewhere : {X : Type 0} (b : Bool) (xs : List X) (place k : ℕ) (x d : X) → (place ≡ k → ⊥) → get_or (cond b (set xs place x) xs) k d ≡ get_or xs k d
elsewhere true xs place k x d differ = get_or-set_other xs place k x d (λ same. differ (sym same))
elsewhere false xs place k x d differ = refl

sets_here :
    (key : StyleKeyRecord) (row k : ℕ) (rows : List ℕ) → key.style ≡ k → k < length rows
    → leb key.row row ≡ true → sets key row rows ≡ ltb (get_or rows k 0) key.row
sets_here key row k rows same within passes =
    ap (λ b. b && (ltb key.style (length rows) && ltb (get_or rows key.style 0) key.row)) passes
    ∙ ap (λ n. ltb n (length rows) && ltb (get_or rows n 0) key.row) same
    ∙ ap (λ b. b && ltb (get_or rows k 0) key.row) (lt-ltb k (length rows) within)

sets_not : (key : StyleKeyRecord) (row : ℕ) (rows : List ℕ) → leb key.row row ≡ false → sets key row rows ≡ false
sets_not key row rows fails = ap (λ b. b && (ltb key.style (length rows) && ltb (get_or rows key.style 0) key.row)) fails

-- what holds of a style after one more key
abbrev IsTaken : Style → List StyleKeyRecord → ℕ → ℕ → Style → ℕ → Type 0
IsTaken written keys row k style by =
    (style ≡ keyed (key_among keys row k) written) × (by ≡ option_map_or (λ q. q.row) (key_among keys row k) 0)

-- a key that isn't of this style, or is of a later row, changes nothing here
taken_elsewhere :
    (keys : List StyleKeyRecord) (i row k : ℕ) (key : StyleKeyRecord) (written : Style) (style : Style) (by : ℕ)
    → i < length keys → key ≡ get_or keys i key → (eqb key.style k && leb key.row row) ≡ false
    → IsTaken written (take i keys) row k style by → IsTaken written (take (i + 1) keys) row k style by
taken_elsewhere keys i row k key written style by within is fails was =
    let stays : key_among (take (i + 1) keys) row k ≡ key_among (take i keys) row k =
    key_among_more keys i row k key within is
    ∙ ap (λ b. cond b (Some (newest (λ k. k.row) (key_among (take i keys) row k) key)) (key_among (take i keys) row k)) fails
    in
    (was.0 ∙ ap (λ o. keyed o written) (sym stays), was.1 ∙ ap (λ o. option_map_or (λ q. q.row) o 0) (sym stays))

taken_here :
    (keys : List StyleKeyRecord) (i row k : ℕ) (key : StyleKeyRecord) (written : Style) (style : Style) (by : ℕ)
    → i < length keys → key ≡ get_or keys i key → 1 ≤ key.row → (eqb key.style k && leb key.row row) ≡ true
    → IsTaken written (take i keys) row k style by
    → IsTaken written (take (i + 1) keys) row k (cond (ltb by key.row) key.to style) (cond (ltb by key.row) key.row by)
taken_here keys i row k key written style by within is positive passes was =
    let grows : key_among (take (i + 1) keys) row k ≡ Some (newest (λ k. k.row) (key_among (take i keys) row k) key) =
    key_among_more keys i row k key within is
    ∙ ap (λ b. cond b (Some (newest (λ k. k.row) (key_among (take i keys) row k) key)) (key_among (take i keys) row k)) passes
    in
    let set = set_to (key_among (take i keys) row k) key written by style positive was.0 was.1 in
    (set.0 ∙ ap (λ o. keyed o written) (sym grows), set.1 ∙ ap (λ o. option_map_or (λ q. q.row) o 0) (sym grows))

-- what holds of a style after a key, whether or not the key is of this style
taken_at :
    (keys : List StyleKeyRecord) (i row k : ℕ) (key : StyleKeyRecord) (written d : Style) (styles : List Style) (rows : List ℕ)
    → i < length keys → key ≡ get_or keys i key → 1 ≤ key.row → k < length styles → k < length rows
    → IsTaken written (take i keys) row k (get_or styles k d) (get_or rows k 0)
    → (key.style ≡ k) ⊎ (key.style ≡ k → ⊥) → (leb key.row row ≡ true) ⊎ (leb key.row row ≡ false)
    → IsTaken written (take (i + 1) keys) row k
    (get_or (cond (sets key row rows) (set styles key.style key.to) styles) k d)
    (get_or (cond (sets key row rows) (set rows key.style key.row) rows) k 0)
taken_at keys i row k key written d styles rows within is positive inside inside_rows was (inl same) (inl passes) =
    let sets_when = sets_here key row k rows same inside_rows passes in
    let by = get_or rows k 0 in
    let held = taken_here keys i row k key written (get_or styles k d) by within is positive (and_from _ _ (eq-eqb key.style k same) passes) was in (
      at_place (sets key row rows) styles key.style k key.to d inside same ∙ ap (λ b. cond b key.to (get_or styles k d)) sets_when ∙ held.0,
      at_place (sets key row rows) rows key.style k key.row 0 inside_rows same ∙ ap (λ b. cond b key.row by) sets_when ∙ held.1,
    )
taken_at keys i row k key written d styles rows within is positive inside inside_rows was (inl same) (inr fails) =
    let held = taken_elsewhere keys i row k key written (get_or styles k d) (get_or rows k 0) within is (and_right _ _ fails) was in
    let never = sets_not key row rows fails in (
      ap (λ b. get_or (cond b (set styles key.style key.to) styles) k d) never ∙ held.0,
      ap (λ b. get_or (cond b (set rows key.style key.row) rows) k 0) never ∙ held.1,
    )
taken_at keys i row k key written d styles rows within is positive inside inside_rows was (inr differ) row_test =
    let held = taken_elsewhere keys i row k key written (get_or styles k d) (get_or rows k 0) within is (and_left _ _ (ne_eqb key.style k differ)) was in (
      elsewhere (sets key row rows) styles key.style k key.to d differ ∙ held.0,
      elsewhere (sets key row rows) rows key.style k key.row 0 differ ∙ held.1,
    )

length-set_if : {X : Type 0} (b : Bool) (xs : List X) (place : ℕ) (x : X) → length (cond b (set xs place x) xs) ≡ length xs
length-set_if true xs place x = length-set xs place x
length-set_if false xs place x = refl

-- one more key is taken
pub AreTaken-more :
    (written : List Style) (keys : List StyleKeyRecord) (i row : ℕ) (key : StyleKeyRecord) (styles after : List Style) (rows rows_after : List ℕ)
    → i < length keys → key ≡ get_or keys i key → 1 ≤ key.row
    → AreTaken written (take i keys) row styles rows
    → after ≡ cond (sets key row rows) (set styles key.style key.to) styles
    → rows_after ≡ cond (sets key row rows) (set rows key.style key.row) rows
    → AreTaken written (take (i + 1) keys) row after rows_after
AreTaken-more written keys i row key styles after rows rows_after within is positive taken new new_rows =
    record {
      styles_length = ap length new ∙ length-set_if (sets key row rows) styles key.style key.to ∙ taken.styles_length;
      rows_length = ap length new_rows ∙ length-set_if (sets key row rows) rows key.style key.row ∙ taken.rows_length;
      set = λ k d inside. ap (λ xs. get_or xs k d) new ∙ (at k d inside).0;
      set_by = λ k inside. ap (λ xs. get_or xs k 0) new_rows ∙ (at k key.to inside).1;
    }
  where
    at :
        (k : ℕ) (d : Style) → k < length written
        → IsTaken (get_or written k d) (take (i + 1) keys) row k
        (get_or (cond (sets key row rows) (set styles key.style key.to) styles) k d)
        (get_or (cond (sets key row rows) (set rows key.style key.row) rows) k 0)
    at k d inside =
        taken_at keys i row k key (get_or written k d) d styles rows within is positive (omega (arith, taken.styles_length)) (omega (arith, taken.rows_length))
        (taken.set k d inside, taken.set_by k inside) (cases_eq key.style k) (cases_Bool (leb key.row row))
