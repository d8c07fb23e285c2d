use mathlib.Core.Path.{◌≡◌}
use mathlib.Core.List.{List}
use Prim.Native.Nat.{ℕ}
use lib.ListN.{length}
use Rattle.build.specs.Links.{Linked, Spelled}
use Rattle.build.proofs.Out.{LaidTo}
use Rattle.build.proofs.lay.lay_out.Given as goal

-- the columns keep their lengths
pub record Kept (edge_at₀ edge_n₀ byte₀ to₀ edge_at edge_n byte to : List ℕ) : Type 0 where
  pub starts : length edge_at ≡ length edge_at₀
  pub counts : length edge_n ≡ length edge_n₀
  pub bytes : length byte ≡ length byte₀
  pub targets : length to ≡ length to₀

abbrev pub invariant-loop-k : goal.invariant-loop-k
invariant-loop-k l = Kept l.initial.edge_at l.initial.edge_n l.initial.byte l.initial.to l.edge_at l.edge_n l.byte l.to
    × ((ns : List (List ℕ)) → Linked ns l.work → Spelled ns 0 l.initial.edge_n → l.n ≡ length ns
    → LaidTo ns l.initial.edge_at l.initial.edge_n l.initial.byte l.initial.to l.edge_at l.edge_n l.byte l.to l.k l.at)
