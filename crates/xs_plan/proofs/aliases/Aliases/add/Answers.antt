-- What is kept of the reads, after an alias is added that reads these.
use Rattle.std.proofs.Common.{◌≡◌, [], ◌∷◌, ◌++◌, length, replicate, ap, ap₂, ◌∙◌, arith}
use Rattle.xs_plan.specs.Record.{Entry, inputs_from}
use Rattle.xs_plan.specs.Kept.{counted}
use Rattle.xs_plan.proofs.ReadLemmas.{AreReads-add, room_for_second, made_of}
use Rattle.xs_plan.proofs.aliases.Aliases.add.Goals as goal

pub count_read-requires-2-clause-room : goal.count_read-requires-2-clause-room
count_read-requires-2-clause-room c =
    let a = c.args.a in
    let there = rw (← c.self.view_is) at c.requires.first in
    let pushed : c.push_reserved-3.new.self.items ≡ c.self.inside.readers.items ++ 0 ∷ [] =
    c.push_reserved-3.ensures.items ∙ ap (λ l. l ++ 0 ∷ []) c.reserve-4.ensures.items in
    let is : c.count_read.new.readers.items ≡ counted (c.self.inside.readers.items ++ 0 ∷ []) a =
    c.count_read.ensures ∙ ap (λ l. counted l a) pushed in
    rw is (room_for_second c.self.invariant a c.args.b there)

pub invariant_of-self-2 : goal.invariant_of-self-2
invariant_of-self-2 c =
    let inside = c.self.inside in
    let a = c.args.a in
    let b = c.args.b in
    let n = length inside.list.items in
    let alias = made_of c.args.job c.args.rect a b in
    let list : c.push_reserved-2.new.self.items ≡ inside.list.items ++ alias ∷ [] =
    c.push_reserved-2.ensures.items ∙ ap₂ (λ l x. l ++ x ∷ []) c.reserve.ensures.items c.new-alias.ensures in
    let many : c.len.result ≡ length inside.owners.items = omega (arith, c.len.ensures, c.reserve-3.ensures.len, inside.owners.ok.0) in
    let starts : c.push_reserved.new.self.items ≡ inside.starts.items ++ length inside.owners.items ∷ [] =
    c.push_reserved.ensures.items ∙ ap₂ (λ l x. l ++ x ∷ []) c.reserve-2.ensures.items many in
    let number : c.len-k.result ≡ n = omega (arith, c.len-k.ensures, c.reserve.ensures.len, inside.list.ok.0) in
    let ports : c.ports.result ≡ length (inputs_from a b) =
    c.ports.ensures.count ∙ ap (λ (e : Entry). length e.inputs) c.new-alias.ensures in
    let copies : replicate c.ports.result c.len-k.result ≡ replicate (length (inputs_from a b)) n =
    ap₂ (λ p k. replicate p k) ports number in
    let owners : c.note_owner.new.owners.items ≡ inside.owners.items ++ replicate (length (inputs_from a b)) n =
    c.note_owner.ensures ∙ ap₂ (λ l m. l ++ m) c.reserve-3.ensures.items copies in
    let pushed : c.push_reserved-3.new.self.items ≡ inside.readers.items ++ 0 ∷ [] =
    c.push_reserved-3.ensures.items ∙ ap (λ l. l ++ 0 ∷ []) c.reserve-4.ensures.items in
    let readers : c.count_read-2.new.readers.items ≡ counted (counted (inside.readers.items ++ 0 ∷ []) a) b =
    c.count_read-2.ensures ∙ ap (λ l. counted l b) (c.count_read.ensures ∙ ap (λ l. counted l a) pushed) in
    let first = rw (← c.self.view_is) at c.requires.first in
    let second = rw (← c.self.view_is) at c.requires.second in
    let room = rw (← c.self.view_is) at c.requires.room in
    rw (list, starts, owners, readers)
    (AreReads-add c.self.invariant c.args.job c.args.rect a b c.requires.inputs first second room)
