-- The numbers of drawings
use Rattle.std.proofs.Common.{◌≡◌, ◌<◌, ◌≤◌, ◌+◌, ◌-◌, ℕ, zero, suc, List, [], ◌∷◌, Some, length, take, get_or, sum_by, cond, sym, ap, ◌∙◌, subst, arith}
use Rattle.std.proofs.lemmas.Bool.{lt-ltb, le-ltb}
use Rattle.std.proofs.lemmas.List.{length-append, get_or_default, take_all}
use Rattle.std.proofs.lemmas.List.Concat.{length-flat_map, get_or-flat_map}
use Rattle.std.proofs.lemmas.List.Sums.{sum_by_more, sum_by-take-le}
use Rattle.std.proofs.lemmas.Option.{slice_get-get_or}
use Rattle.xs_scene.specs.declared.column.Shown.TheVariants.{Drawing}
use Rattle.xs_scene.specs.Records.{SceneRecord, LevelRecord}
use Rattle.xs_meaning.specs.Drawings.{number_of, level_of}
use Rattle.xs_index.specs.declared.index.Index.{Index}
use Rattle.xs_check.specs.Good.{files_of, level_at, no_drawings, IsThere}
use Rattle.xs_check.specs.Readers.{drawings_before, IsNumbering, IsOwner, IsKept}

abbrev Owns : List LevelRecord → ℕ → ℕ → ℕ → Type 0
Owns levels numbered d o = (o < numbered) × (drawings_before levels o ≤ d) × (d < drawings_before levels (o + 1))

-- all levels have all the drawings
all_drawings : (levels : List LevelRecord) → drawings_before levels (length levels) ≡ length (files_of levels)
all_drawings levels =
    ap (λ ls. sum_by (λ (l : LevelRecord). length l.drawings) ls) (take_all (length levels) levels (omega arith))
    ∙ sym (length-flat_map (λ (l : LevelRecord). l.drawings) levels)

number_below :
    (levels : List LevelRecord) (level index : ℕ) → level < length levels → index < length (level_at levels level).drawings
    → number_of levels level index < length (files_of levels)
number_below levels level index inside below =
    omega (
      arith,
      sum_by_more (λ (l : LevelRecord). length l.drawings) levels level no_drawings inside,
      sum_by-take-le (λ (l : LevelRecord). length l.drawings) levels (level + 1),
      length-flat_map (λ (l : LevelRecord). l.drawings) levels,
    )

-- the level of a drawing by its number
level_of_number :
    (levels : List LevelRecord) (i j n : ℕ) (e : LevelRecord) → i < length levels → j < length (get_or levels i e).drawings
    → n ≡ length (files_of (take i levels)) + j → level_of levels n ≡ Some (get_or levels i e)
level_of_number [] i j n e within below is = absurd (omega arith)
level_of_number (l ∷ ls) zero j n e within below is =
    ap (λ b. cond b (Some l) (level_of ls (n - length l.drawings))) (lt-ltb n (length l.drawings) (omega arith))
level_of_number (l ∷ ls) (suc i) j n e within below is =
    let long = length-append l.drawings (files_of (take i ls)) in
    ap (λ b. cond b (Some l) (level_of ls (n - length l.drawings))) (le-ltb n (length l.drawings) (omega (arith, long)))
    ∙ level_of_number ls i j (n - length l.drawings) e (omega arith) below (omega (arith, long))

owner_in :
    (levels : List LevelRecord) (d i : ℕ) (level : LevelRecord) → i < length levels → drawings_before levels i ≤ d
    → d < drawings_before levels (i + 1) → level ≡ get_or levels i level
    → IsOwner levels d (d - drawings_before levels i) level
owner_in levels d i level within from to is =
    let files = length-flat_map (λ (l : LevelRecord). l.drawings) (take i levels) in
    let more = sum_by_more (λ (l : LevelRecord). length l.drawings) levels i level within in
    let j = d - drawings_before levels i in
    let at : length (files_of (take i levels)) + j ≡ d = omega (arith, files) in
    let below : j < length (get_or levels i level).drawings = omega (arith, more) in
    let total : d < length (files_of levels) =
    omega (arith, sum_by-take-le (λ (l : LevelRecord). length l.drawings) levels (i + 1), length-flat_map (λ (l : LevelRecord). l.drawings) levels)
    in
    record {
      level = level_of_number levels i j d level within below (sym at) ∙ ap Some (sym is);
      among = (i, within, sym is);
      inside = subst (λ (l : LevelRecord). j < length l.drawings) (sym is) below;
      file =
          slice_get-get_or (files_of levels) d [] total
          ∙ ap Some (ap (λ n. get_or (files_of levels) n []) (sym at)
          ∙ get_or-flat_map (λ (l : LevelRecord). l.drawings) levels i j level [] within below
          ∙ ap (λ (l : LevelRecord). get_or l.drawings j []) (sym is));
    }

-- a drawing by the level and the number of the level's first drawing, as they are kept
pub owner_of :
    (levels : List LevelRecord) (firsts owners : List ℕ) (d i first : ℕ) (level : LevelRecord)
    → IsNumbering levels (length levels) firsts owners → d < length owners → i ≡ get_or owners d i
    → first ≡ get_or firsts i first → level ≡ get_or levels i level
    → (i < length firsts) × (i < length levels) × (first ≤ d) × IsOwner levels d (d - first) level
owner_of levels firsts owners d i first level kept below owner at is =
    let owned : i ≡ get_or owners d 0 = owner ∙ get_or_default owners d i 0 below in
    let owns = subst (Owns levels (length levels) d) (sym owned) (kept.owner d below) in
    let inside : i < length firsts = omega (arith, owns.0, kept.firsts_length) in
    let from : first ≡ drawings_before levels i = at ∙ get_or_default firsts i first 0 inside ∙ kept.first i owns.0 in (
      inside,
      owns.0,
      subst (λ n. n ≤ d) (sym from) owns.1,
      subst (λ n. IsOwner levels d (d - n) level) (sym from) (owner_in levels d i level owns.0 owns.1 owns.2 is),
    )

-- of what is kept with a scene: how many drawings there are, and the first number of a level
pub kept_drawings : (s : SceneRecord) (index : Index) (firsts owners : List ℕ) → IsKept s index firsts owners → length owners ≡ length (files_of s.levels)
kept_drawings s index firsts owners kept = kept.numbering.owners_length ∙ all_drawings s.levels

pub kept_number :
    (s : SceneRecord) (kept_index : Index) (firsts owners : List ℕ) (level index first : ℕ) → IsKept s kept_index firsts owners
    → IsThere s (Drawing level index) → first ≡ get_or firsts level first
    → (level < length firsts) × (first + index ≡ number_of s.levels level index) × (first + index < length owners)
kept_number s kept_index firsts owners level index first kept there at =
    let inside : level < length firsts = omega (arith, kept.numbering.firsts_length, there.0) in
    let from : first ≡ drawings_before s.levels level =
    at ∙ get_or_default firsts level first 0 inside ∙ kept.numbering.first level there.0
    in (
      inside,
      ap (λ n. n + index) from,
      omega (arith, from, number_below s.levels level index there.0 there.1, kept_drawings s kept_index firsts owners kept),
    )
