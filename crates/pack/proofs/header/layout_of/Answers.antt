-- `pack::header::layout_of` meets its contract: the parts stand where they should, and then the kind decides. Assumes nothing.
use mathlib.Core.Path.{◌≡◌, sym, ap, ◌∙◌}
use Rattle.pack.specs.Pack.{header_of, laid_out, kind_laid_out}
use Rattle.pack.proofs.Headers.{rows_inside, kind-wrong, kind-right}
use Rattle.pack.proofs.header.layout_of.Goals as goal

pub returns-then-not-is_laid_out : goal.returns-then-not-is_laid_out
returns-then-not-is_laid_out c =
    let tested : (c.is_laid_out.result ≡ laid_out c.args.bytes.now (header_of c.args.bytes.now)) = c.is_laid_out.ensures ∙ ap (laid_out c.args.bytes.now) c.requires.1 in
    sym (kind-wrong c.args.bytes.now (sym (tested) ∙ c.if-not-is_laid_out.true))

pub kind_laid_out-requires : goal.kind_laid_out-requires
kind_laid_out-requires c = rows_inside c.args.bytes.now c.args.h (sym c.is_laid_out.ensures ∙ c.if-not-is_laid_out.false)

pub returns : goal.returns
returns c =
    let tested : (c.is_laid_out.result ≡ laid_out c.args.bytes.now (header_of c.args.bytes.now)) = c.is_laid_out.ensures ∙ ap (laid_out c.args.bytes.now) c.requires.1 in
    c.kind_laid_out.ensures ∙ ap (kind_laid_out c.args.bytes.now) c.requires.1
    ∙ sym (kind-right c.args.bytes.now (sym (tested) ∙ c.if-not-is_laid_out.false))
