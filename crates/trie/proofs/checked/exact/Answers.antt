-- `trie::checked::exact` meets its contract: the string's id is that of the node its walk from the root ends in. Assumes
-- nothing.
use Rattle.std.proofs.Common.{◌≡◌, sym, ap, ◌∙◌}
use Rattle.trie.specs.Trie.{parts, walk}
use Rattle.trie.specs.Walks.{next_of}
use Rattle.trie.proofs.Walking.{id-of, from-none, from_some, root_stands, id_there}
use Rattle.trie.proofs.checked.exact.Goals as goal

pub over-requires : goal.over-requires
over-requires c = rw c.root.ensures (root_stands _ c.requires)

pub returns-in_err-over : goal.returns-in_err-over
returns-in_err-over c =
    let t = parts c.args.t.now in
    let s = c.args.s.now in
    let walked : walk t 0 s ≡ next_of c.over.result = sym (rw c.root.ensures at c.over.ensures) in
    rw c.from_residual.ensures (sym (id-of t s ∙ from-none t 0 s (walked ∙ ap next_of c.in_err-over.was)))

pub id_at-requires : goal.id_at-requires
id_at-requires c =
    let t = parts c.args.t.now in
    let walked : walk t 0 c.args.s.now ≡ next_of c.over.result = sym (rw c.root.ensures at c.over.ensures) in
    id_there t c.requires c.args.s.now (walked ∙ ap next_of c.in_ok-over.was)

pub returns : goal.returns
returns c =
    let t = parts c.args.t.now in
    let s = c.args.s.now in
    let walked : walk t 0 s ≡ next_of c.over.result = sym (rw c.root.ensures at c.over.ensures) in
    c.id_at.ensures ∙ sym (id-of t s ∙ from_some t 0 s (walked ∙ ap next_of c.in_ok-over.was))
