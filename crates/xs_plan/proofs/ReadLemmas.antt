-- Lemmas on the reads of aliases
use Rattle.std.proofs.Common.{◌≡◌, ◌<◌, ◌≤◌, ◌+◌, ◌-◌, ◌*◌, ◌/◌, ◌%◌, ℕ, zero, suc, Bool, true, false, cond, eqb, List, [], ◌∷◌, ◌++◌, Option, Some, None, IfSome, length, take, slice_get, slice_index, get_or, replicate, count_by, refl, sym, ap, ◌∙◌, subst, ⊎_elim, arith, zero-add, add-zero, length-append}
use Rattle.std.proofs.lemmas.Bool.{eq-eqb, ne_eqb, cases_eq, cases_lt}
use Rattle.std.proofs.lemmas.List.{append-nil, take_all, take-append-le, get_or-set_same, get_or-set_other, get_or_append_left, get_or_push, get_or_read, length-set, length_push, length-replicate, get_or-replicate, get_or-append_right}
use Rattle.std.proofs.lemmas.List.Concat.{flat_map-append}
use Rattle.std.proofs.lemmas.List.Folds.{length-flat_map-take}
use Rattle.std.proofs.lemmas.Option.{get_or_from_slice_get}
use Rattle.std.proofs.lemmas.List.Sums.{sum_by-append, count_by-le-length}
use Rattle.xs_rect.specs.Area.{Area}
use Rattle.xs_plan.specs.declared.job.Job.{Job}
use Rattle.xs_plan.specs.declared.job.Reader.TheVariants.{Port, Root}
use Rattle.xs_plan.specs.Record.{Entry, entry_at, no_entry, inputs_from}
use Rattle.xs_plan.specs.Reads.{port_sources, edge, edges_from, port_edges, root_edges}
use Rattle.xs_plan.specs.declared.limits.TheConstants.{MOST_ROWS, MOST_TILES, MOST_BUILT}
use Rattle.xs_plan.specs.Kept.{AreReads, IsOwner, reads_before, counted}

-- ---- an element of joined lists

pub slice_get-append_left :
    {A : Type 0} (xs ys : List A) (i : ℕ) → i < length xs → slice_get (xs ++ ys) i ≡ slice_get xs i
slice_get-append_left [] ys i lt = absurd (omega arith)
slice_get-append_left (x ∷ xs) ys zero lt = refl
slice_get-append_left (x ∷ xs) ys (suc i) lt = slice_get-append_left xs ys i (omega arith)

pub slice_get-append_right :
    {A : Type 0} (xs ys : List A) (i : ℕ) → slice_get (xs ++ ys) (length xs + i) ≡ slice_get ys i
slice_get-append_right [] ys i = ap (λ n. slice_get ys n) (zero-add i)
slice_get-append_right (x ∷ xs) ys i =
    let e : suc (length xs) + i ≡ suc (length xs + i) = omega arith in
    ap (λ n. slice_get (x ∷ (xs ++ ys)) n) e ∙ slice_get-append_right xs ys i

-- ---- reads at ports

pub port_sources-push : (entries : List Entry) (e : Entry) → port_sources (entries ++ e ∷ []) ≡ port_sources entries ++ e.inputs
port_sources-push entries e =
    flat_map-append (λ (e : Entry). e.inputs) entries (e ∷ []) ∙ ap (λ l. port_sources entries ++ l) (append-nil e.inputs)

pub length-port_sources-push :
    (entries : List Entry) (e : Entry) → length (port_sources (entries ++ e ∷ [])) ≡ length (port_sources entries) + length e.inputs
length-port_sources-push entries e =
    ap length (port_sources-push entries e) ∙ length-append (port_sources entries) e.inputs

-- the reads of an alias are some of those at ports
pub reads_before-within :
    (entries : List Entry) (k : ℕ) → k < length entries
    → reads_before entries k + length (entry_at entries k).inputs ≤ length (port_sources entries)
reads_before-within entries k lt = length-flat_map-take (λ (e : Entry). e.inputs) entries k no_entry lt

pub reads_before-push :
    (entries : List Entry) (e : Entry) (k : ℕ) → k ≤ length entries → reads_before (entries ++ e ∷ []) k ≡ reads_before entries k
reads_before-push entries e k le = ap (λ l. length (port_sources l)) (take-append-le k entries (e ∷ []) le)

pub reads_before-whole : (entries : List Entry) → reads_before entries (length entries) ≡ length (port_sources entries)
reads_before-whole entries = ap (λ l. length (port_sources l)) (take_all (length entries) entries (omega arith))

pub entry_at-push_left :
    (entries : List Entry) (e : Entry) (k : ℕ) → k < length entries → entry_at (entries ++ e ∷ []) k ≡ entry_at entries k
entry_at-push_left entries e k lt = get_or_append_left entries (e ∷ []) no_entry k lt

pub entry_at-push : (entries : List Entry) (e : Entry) (k : ℕ) → length entries ≡ k → entry_at (entries ++ e ∷ []) k ≡ e
entry_at-push entries e k same = get_or_push entries e no_entry k same

-- ---- edges

length-edges_from : (k port : ℕ) (inputs : List ℕ) → length (edges_from k port inputs) ≡ length inputs
length-edges_from k port [] = refl
length-edges_from k port (source ∷ inputs) = ap suc (length-edges_from k (port + 1) inputs)

edges_from-at :
    (k port : ℕ) (inputs : List ℕ) (i : ℕ) → i < length inputs
    → slice_get (edges_from k port inputs) i ≡ Some (edge (slice_index inputs i) (Port k (port + i)))
edges_from-at k port [] i lt = absurd (omega arith)
edges_from-at k port (source ∷ inputs) zero lt = ap (λ q. Some (edge source (Port k q))) (sym (add-zero port))
edges_from-at k port (source ∷ inputs) (suc i) lt =
    let e : (port + 1) + i ≡ port + suc i = omega arith in
    edges_from-at k (port + 1) inputs i (omega arith) ∙ ap (λ q. Some (edge (slice_index inputs i) (Port k q))) e

pub length-port_edges : (k : ℕ) (entries : List Entry) → length (port_edges k entries) ≡ length (port_sources entries)
length-port_edges k [] = refl
length-port_edges k (e ∷ entries) =
    let edges = length-append (edges_from k 0 e.inputs) (port_edges (k + 1) entries) in
    let sources = length-append e.inputs (port_sources entries) in
    let first = length-edges_from k 0 e.inputs in
    let rest = length-port_edges (k + 1) entries in
    omega arith

port_edges-from :
    (j : ℕ) (entries : List Entry) (k port : ℕ) → k < length entries → port < length (entry_at entries k).inputs
    → slice_get (port_edges j entries) (reads_before entries k + port)
    ≡ Some (edge (slice_index (entry_at entries k).inputs port) (Port (j + k) port))
port_edges-from j [] k port lt has = absurd (omega arith)
port_edges-from j (e ∷ entries) zero port lt has =
    let short : port < length (edges_from j 0 e.inputs) = omega (arith, length-edges_from j 0 e.inputs) in
    ap (λ n. slice_get (port_edges j (e ∷ entries)) n) (zero-add port)
    ∙ slice_get-append_left (edges_from j 0 e.inputs) (port_edges (j + 1) entries) port short
    ∙ edges_from-at j 0 e.inputs port has
    ∙ ap (λ q. Some (edge (slice_index e.inputs port) (Port q (0 + port)))) (sym (add-zero j))
    ∙ ap (λ q. Some (edge (slice_index e.inputs port) (Port (j + 0) q))) (zero-add port)
port_edges-from j (e ∷ entries) (suc k) port lt has =
    let same : (length (e.inputs ++ port_sources (take k entries)) + port) ≡ length (edges_from j 0 e.inputs) + (reads_before entries k + port) =
    omega (arith, length-append e.inputs (port_sources (take k entries)), length-edges_from j 0 e.inputs) in
    let number : (j + 1) + k ≡ j + suc k = omega arith in
    ap (λ n. slice_get (port_edges j (e ∷ entries)) n) same
    ∙ slice_get-append_right (edges_from j 0 e.inputs) (port_edges (j + 1) entries) (reads_before entries k + port)
    ∙ port_edges-from (j + 1) entries k port (omega arith) has
    ∙ ap (λ q. Some (edge (slice_index (entry_at entries k).inputs port) (Port q port))) number

-- the read at a port of an alias
pub port_edges-at :
    (entries : List Entry) (k port : ℕ) → k < length entries → port < length (entry_at entries k).inputs
    → slice_get (port_edges 0 entries) (reads_before entries k + port)
    ≡ Some (edge (slice_index (entry_at entries k).inputs port) (Port k port))
port_edges-at entries k port lt has =
    port_edges-from 0 entries k port lt has
    ∙ ap (λ q. Some (edge (slice_index (entry_at entries k).inputs port) (Port q port))) (zero-add k)

root_edges-from :
    (tiles place : ℕ) (roots : List ℕ) (i : ℕ) → i < length roots
    → slice_get (root_edges tiles place roots) i
    ≡ Some (edge (slice_index roots i) (Root ((place + i) / tiles) ((place + i) % tiles)))
root_edges-from tiles place [] i lt = absurd (omega arith)
root_edges-from tiles place (source ∷ roots) zero lt =
    ap (λ q. Some (edge source (Root (q / tiles) (q % tiles)))) (sym (add-zero place))
root_edges-from tiles place (source ∷ roots) (suc i) lt =
    let e : (place + 1) + i ≡ place + suc i = omega arith in
    root_edges-from tiles (place + 1) roots i (omega arith)
    ∙ ap (λ q. Some (edge (slice_index roots i) (Root (q / tiles) (q % tiles)))) e

-- the read of a place among the roots
pub root_edges-at :
    (tiles : ℕ) (roots : List ℕ) (place : ℕ) → place < length roots
    → slice_get (root_edges tiles 0 roots) place ≡ Some (edge (slice_index roots place) (Root (place / tiles) (place % tiles)))
root_edges-at tiles roots place lt =
    root_edges-from tiles 0 roots place lt
    ∙ ap (λ q. Some (edge (slice_index roots place) (Root (q / tiles) (q % tiles)))) (zero-add place)

-- ---- counts

abbrev pub count_of : ℕ → List ℕ → ℕ
count_of k xs = count_by (λ source. eqb source k) xs

pub count_of-append : (k : ℕ) (xs ys : List ℕ) → count_of k (xs ++ ys) ≡ count_of k xs + count_of k ys
count_of-append k xs ys = sum_by-append (λ source. cond (eqb source k) 1 0) xs ys

pub count_of-le : (k : ℕ) (xs : List ℕ) → count_of k xs ≤ length xs
count_of-le k xs = count_by-le-length (λ source. eqb source k) xs

-- how often an input is one of these
abbrev pub one_if : Option ℕ → ℕ → ℕ
one_if None k = 0
one_if (Some source) k = cond (eqb source k) 1 0

pub count_of-inputs :
    (k : ℕ) (a b : Option ℕ) → (a ≡ None → b ≡ None) → count_of k (inputs_from a b) ≡ one_if a k + one_if b k
count_of-inputs k None None h = refl
count_of-inputs k None (Some y) h = absurd (let e : Some y ≡ None = h refl in cc)
count_of-inputs k (Some x) None h = omega arith
count_of-inputs k (Some x) (Some y) h = omega arith

pub counted-at :
    (readers : List ℕ) (source : Option ℕ) (k : ℕ) → IfSome source (λ j. j < length readers)
    → slice_index (counted readers source) k ≡ slice_index readers k + one_if source k
counted-at readers None k there = sym (add-zero (slice_index readers k))
counted-at readers (Some j) k there =
    ⊎_elim
    (λ same.
    ap (λ q. slice_index (counted readers (Some j)) q) (sym same)
    ∙ get_or-set_same readers j (slice_index readers j + 1) 0 there
    ∙ ap (λ q. slice_index readers q + 1) same
    ∙ ap (λ c. slice_index readers k + cond c 1 0) (sym (eq-eqb j k same)))
    (λ other.
    get_or-set_other readers j k (slice_index readers j + 1) 0 (λ e. other (sym e))
    ∙ sym (add-zero (slice_index readers k))
    ∙ ap (λ c. slice_index readers k + cond c 1 0) (sym (ne_eqb j k other)))
    (cases_eq j k)

pub length-counted : (readers : List ℕ) (source : Option ℕ) → length (counted readers source) ≡ length readers
length-counted readers None = refl
length-counted readers (Some j) = length-set readers j (slice_index readers j + 1)

pub slice_index-push_zero : (xs : List ℕ) (k : ℕ) → slice_index (xs ++ 0 ∷ []) k ≡ slice_index xs k
slice_index-push_zero [] zero = refl
slice_index-push_zero [] (suc k) = refl
slice_index-push_zero (x ∷ xs) zero = refl
slice_index-push_zero (x ∷ xs) (suc k) = slice_index-push_zero xs k

-- ---- what is kept

pub few_owners :
    {entries : List Entry} {roots starts owners readers : List ℕ} → AreReads entries roots starts owners readers
    → length owners ≤ 2 * MOST_BUILT
few_owners kept = omega (arith, kept.few, kept.few_ports, kept.owners_many)

pub few_counts :
    {entries : List Entry} {roots starts owners readers : List ℕ} → AreReads entries roots starts owners readers
    → (k : ℕ) → slice_index readers k ≤ 2 * MOST_BUILT + MOST_ROWS * MOST_TILES
few_counts {entries} {roots} kept k =
    let most = count_of-le k (port_sources entries ++ roots) in
    let many = length-append (port_sources entries) roots in
    omega (arith, kept.few, kept.few_ports, kept.few_roots, kept.counts k)

-- the read with a number, from what was looked up: its alias, that alias's first read, and what the alias is
pub edge_found :
    {entries : List Entry} {roots starts owners readers : List ℕ} → AreReads entries roots starts owners readers
    → (e alias start source : ℕ) (x : Entry) → e < length owners → alias ≡ get_or owners e alias
    → start ≡ get_or starts alias start → x ≡ get_or entries alias x → Some source ≡ slice_get x.inputs (e - start)
    → slice_get (port_edges 0 entries) e ≡ Some (edge source (Port alias (e - start)))
edge_found {entries} {roots} {starts} {owners} kept e alias start source x lt alias_is start_is x_is source_is =
    let same_alias : alias ≡ slice_index owners e = get_or_read owners e alias lt alias_is 0 in
    let owner = subst (IsOwner entries e) (sym same_alias) (kept.owner e lt) in
    let many : alias < length starts = omega (arith, kept.starts_many, owner.there) in
    let before : start ≡ reads_before entries alias =
    get_or_read starts alias start many start_is 0 ∙ kept.start alias owner.there in
    let entry : x ≡ entry_at entries alias = get_or_read entries alias x owner.there x_is no_entry in
    let from = owner.from in
    let below = owner.below in
    let at : e ≡ reads_before entries alias + (e - start) = omega arith in
    let has : e - start < length (entry_at entries alias).inputs = omega arith in
    let input : slice_index (entry_at entries alias).inputs (e - start) ≡ source =
    get_or_from_slice_get (entry_at entries alias).inputs (e - start) source 0
    (sym (source_is ∙ ap (λ (y : Entry). slice_get y.inputs (e - start)) entry)) in
    ap (λ n. slice_get (port_edges 0 entries) n) at
    ∙ port_edges-at entries alias (e - start) owner.there has
    ∙ ap (λ s. Some (edge s (Port alias (e - start)))) input

-- ---- what is kept after an alias is added

abbrev pub made_of : Job → Area → Option ℕ → Option ℕ → Entry
made_of job rect a b = record { job = job; rect = rect; inputs = inputs_from a b }

length-inputs_from : (a b : Option ℕ) → length (inputs_from a b) ≤ 2
length-inputs_from None b = omega arith
length-inputs_from (Some x) None = omega arith
length-inputs_from (Some x) (Some y) = omega arith

IfSome-within : (a : Option ℕ) (m n : ℕ) → m ≤ n → IfSome a (λ j. j < m) → IfSome a (λ j. j < n)
IfSome-within None m n le there = there
IfSome-within (Some j) m n le there = omega arith

one_if-le : (a : Option ℕ) (k : ℕ) → one_if a k ≤ 1
one_if-le None k = omega arith
one_if-le (Some j) k =
    by_cases (eqb j k)
  where
    by_cases : (b : Bool) → cond b 1 0 ≤ 1
    by_cases true = omega arith
    by_cases false = omega arith

-- how often an alias is read after one with no reader is added that reads these
pub twice_counted :
    (readers : List ℕ) (a b : Option ℕ) (k : ℕ) → IfSome a (λ j. j < length readers) → IfSome b (λ j. j < length readers)
    → slice_index (counted (counted (readers ++ 0 ∷ []) a) b) k ≡ slice_index readers k + (one_if a k + one_if b k)
twice_counted readers a b k first second =
    let more = readers ++ 0 ∷ [] in
    let longer : length readers ≤ length more = omega (arith, length_push readers 0) in
    let long : length readers ≤ length (counted more a) = omega (arith, length-counted more a) in
    let by_first = counted-at more a k (IfSome-within a (length readers) (length more) longer first) in
    let by_second = counted-at (counted more a) b k (IfSome-within b (length readers) (length (counted more a)) long second) in
    omega (arith, slice_index-push_zero readers k)

pub room_for_count :
    (readers : List ℕ) (source : Option ℕ) (limit : ℕ) → ((k : ℕ) → slice_index readers k + 1 < limit)
    → IfSome source (λ k. slice_index readers k + 1 < limit)
room_for_count readers None limit room = tt
room_for_count readers (Some k) limit room = room k

-- there is room to count a second read
pub room_for_second :
    {entries : List Entry} {roots starts owners readers : List ℕ} → AreReads entries roots starts owners readers
    → (a b : Option ℕ) → IfSome a (λ k. k < length entries)
    → IfSome b (λ k. slice_index (counted (readers ++ 0 ∷ []) a) k + 1 < 4294967296)
room_for_second {entries} {roots} {starts} {owners} {readers} kept a b first =
    let more = readers ++ 0 ∷ [] in
    let longer : length entries ≤ length more = omega (arith, length_push readers 0, kept.readers_many) in
    room_for_count (counted more a) b 4294967296
    (λ k.
    let by_first = counted-at more a k (IfSome-within a (length entries) (length more) longer first) in
    omega (arith, few_counts kept k, one_if-le a k, slice_index-push_zero readers k))

IsOwner-push :
    (entries : List Entry) (e : Entry) (read k : ℕ) → IsOwner entries read k → IsOwner (entries ++ e ∷ []) read k
IsOwner-push entries e read k owner =
    let there = owner.there in
    let from = owner.from in
    let below = owner.below in
    let before = reads_before-push entries e k (omega arith) in
    let same = ap (λ (x : Entry). length x.inputs) (entry_at-push_left entries e k there) in
    record { there = omega (arith, length_push entries e); from = omega arith; below = omega arith }

pub AreReads-add :
    {entries : List Entry} {roots starts owners readers : List ℕ} → AreReads entries roots starts owners readers
    → (job : Job) (rect : Area) (a b : Option ℕ) → (a ≡ None → b ≡ None)
    → IfSome a (λ k. k < length entries) → IfSome b (λ k. k < length entries) → length entries < MOST_BUILT
    → AreReads (entries ++ made_of job rect a b ∷ []) roots (starts ++ length owners ∷ [])
    (owners ++ replicate (length (inputs_from a b)) (length entries)) (counted (counted (readers ++ 0 ∷ []) a) b)
AreReads-add {entries} {roots} {starts} {owners} {readers} kept job rect a b order first second room =
    record {
      few = omega (arith, longer);
      few_roots = kept.few_roots;
      few_ports = omega (arith, kept.few_ports, longer, sources, length-inputs_from a b);
      starts_many = omega (arith, longer, kept.starts_many, length_push starts (length owners));
      start = λ k lt. ⊎_elim (old_start k) (new_start k lt) (cases_lt k n);
      owners_many = omega (arith, kept.owners_many, sources, length-append owners (replicate ports n), length-replicate ports n);
      owner = λ read lt. ⊎_elim (old_owner read) (new_owner read lt) (cases_lt read (length owners));
      readers_many =
          let by_first = length-counted (readers ++ 0 ∷ []) a in
          let by_second = length-counted (counted (readers ++ 0 ∷ []) a) b in
          omega (arith, kept.readers_many, longer, length_push readers 0);
      counts = counts;
    }
  where
    n : ℕ
    n = length entries

    e : Entry
    e = made_of job rect a b

    ports : ℕ
    ports = length (inputs_from a b)

    longer : length (entries ++ e ∷ []) ≡ n + 1
    longer = length_push entries e

    sources : length (port_sources (entries ++ e ∷ [])) ≡ length (port_sources entries) + ports
    sources = length-port_sources-push entries e

    old_start : (k : ℕ) → k < n → slice_index (starts ++ length owners ∷ []) k ≡ reads_before (entries ++ e ∷ []) k
    old_start k lt =
        let there : k < length starts = omega (arith, kept.starts_many) in
        get_or_append_left starts (length owners ∷ []) 0 k there ∙ kept.start k lt
        ∙ sym (reads_before-push entries e k (omega arith))

    new_start : (k : ℕ) → k < length (entries ++ e ∷ []) → n ≤ k
        → slice_index (starts ++ length owners ∷ []) k ≡ reads_before (entries ++ e ∷ []) k
    new_start k lt le =
        let at : k ≡ n = omega (arith, longer) in
        let place : length starts ≡ k = omega (arith, kept.starts_many) in
        get_or_push starts (length owners) 0 k place ∙ kept.owners_many ∙ sym (reads_before-whole entries)
        ∙ sym (reads_before-push entries e n (omega arith)) ∙ ap (λ q. reads_before (entries ++ e ∷ []) q) (sym at)

    old_owner : (read : ℕ) → read < length owners
        → IsOwner (entries ++ e ∷ []) read (slice_index (owners ++ replicate ports n) read)
    old_owner read lt =
        subst (λ (k : ℕ). IsOwner (entries ++ e ∷ []) read k) (sym (get_or_append_left owners (replicate ports n) 0 read lt))
        (IsOwner-push entries e read (slice_index owners read) (kept.owner read lt))

    new_owner : (read : ℕ) → read < length (owners ++ replicate ports n) → length owners ≤ read
        → IsOwner (entries ++ e ∷ []) read (slice_index (owners ++ replicate ports n) read)
    new_owner read lt le =
        let many = length-append owners (replicate ports n) in
        let copies = length-replicate ports n in
        let short : read - length owners < ports = omega arith in
        let here : slice_index (owners ++ replicate ports n) read ≡ n =
        get_or-append_right owners (replicate ports n) (length owners) read 0 refl le
        ∙ get_or-replicate ports (read - length owners) n 0 short in
        let before = reads_before-push entries e n (omega arith) in
        let whole = reads_before-whole entries in
        let inputs = ap (λ (x : Entry). length x.inputs) (entry_at-push entries e n refl) in
        let same = kept.owners_many in
        subst (λ (k : ℕ). IsOwner (entries ++ e ∷ []) read k) (sym here)
        (record { there = omega (arith, longer); from = omega arith; below = omega arith })

    counts : (k : ℕ)
        → slice_index (counted (counted (readers ++ 0 ∷ []) a) b) k ≡ count_of k (port_sources (entries ++ e ∷ []) ++ roots)
    counts k =
        let first_there : IfSome a (λ j. j < length readers) = IfSome-within a n (length readers) (omega (arith, kept.readers_many)) first in
        let second_there : IfSome b (λ j. j < length readers) = IfSome-within b n (length readers) (omega (arith, kept.readers_many)) second in
        let now = twice_counted readers a b k first_there second_there in
        let was = kept.counts k in
        let pushed = ap (λ l. count_of k (l ++ roots)) (port_sources-push entries e) in
        let parts = count_of-append k (port_sources entries ++ inputs_from a b) roots in
        let more = count_of-append k (port_sources entries) (inputs_from a b) in
        let old = count_of-append k (port_sources entries) roots in
        let inputs = count_of-inputs k a b order in
        omega arith
