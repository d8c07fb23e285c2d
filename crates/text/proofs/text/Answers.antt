-- `text::text` meets its contract: an answer tells the fault, or that there is none, and then the span lies inside and is what
-- is given back. Assumes nothing.
use Rattle.text.proofs.Spans.{nothing-given, refused-exactly, accepted-exactly, accepted-span, part_lies}
use Rattle.text.proofs.text.Goals as goal

pub returns-in-Err : goal.returns-in-Err
returns-in-Err c = let f = c.in-Err.field-0 in
    nothing-given _ f ((refused-exactly c.text_answer.ensures f).0 c.in-Err.is) c.nothing.ensures

pub span-requires : goal.span-requires
span-requires c = let a = c.args in
    part_lies a.tab.now a.off a.len (accepted-span a.tab.now a.off a.len ((accepted-exactly c.text_answer.ensures).0 c.in-Ok.is)).1
