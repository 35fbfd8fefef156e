-- All clauses together.
use Rattle.std.proofs.Common.{List, ℕ}
use Rattle.bb_base.specs.Named.{Named}
use Rattle.bb_net.specs.Sites.{Site, sited}
use Rattle.bb_terms.specs.Change.{Change, IsChangeOf, gives_by}
use Rattle.bb_terms.specs.declared.plan.Cell.{Cell}
use Rattle.bb_terms.specs.Plan.{PlanValue}
use Rattle.bb_terms.specs.Signatures.{AreSignatures}
use Rattle.bb_written.proofs.Forward.{forward}
use Rattle.bb_written.proofs.Ranked.{no_loop}
use Rattle.bb_normal.proofs.Whole.{normal}
use Rattle.bb_selftest.specs.WrittenLines.{IsObserver}
use Rattle.bb_selftest.specs.Bounded.{IsBoundedLine}
use Rattle.bb_selftest.proofs.AtSites.{bounded, covers}
use Rattle.bb_selftest.specs.TestTrace.{IsWrittenNetlist}
use Rattle.bb_selftest.specs.Tested.{IsTestedBy}
use Rattle.bb_selftest.specs.SelfTest.{IsSelfTest}
use Rattle.bb_selftest.proofs.ClauseLaws.{roles, holds, comes_out, quiet, tells_end, lines, codes}
use Rattle.bb_selftest.proofs.Exhausting.{exhausted}
use Rattle.bb_selftest.proofs.Signing.{no_change, no_change_fits, signs, unloads}

bound_of : (a b : Named) (p : PlanValue) → IsWrittenNetlist a b p → (i r : ℕ) (c : Cell) → IsObserver p i r c → IsBoundedLine a b p c
bound_of a b p w i r c observer = bounded a b p w.original w.own_names w.plan w.mirrors i r c observer

pub tested : (a b : Named) (p : PlanValue) (f : Change Site) → IsWrittenNetlist a b p → IsChangeOf (sited a).netlist.gates f → IsTestedBy (gives_by f) a b p
tested a b p f w change = record {
  lines = lines a b p f w change;
  codes = codes a b p f w change;
  exhaust = λ i r c observer. exhausted a b p f w change i r c observer (bound_of a b p w i r c observer);
  roles = roles a b p f w change;
  holds = holds a b p f w change;
  out = comes_out a b p f w change;
  quiet = quiet a b p f w change;
  done = tells_end a b p f w change;
}

pub self_test : (a b : Named) (p : PlanValue) (signatures : List (List ℕ)) → IsWrittenNetlist a b p → AreSignatures a.netlist p signatures → IsSelfTest a b p signatures
self_test a b p signatures w signed = record {
  normal = normal forward no_loop a b p w.original w.named w.own_names w.plan w.mirrors;
  cover = covers a b p w.original w.own_names w.plan w.mirrors;
  bound = bound_of a b p w;
  exhaust = λ i r c observer. exhausted a b p no_change w (no_change_fits a b p w) i r c observer (bound_of a b p w i r c observer);
  roles = roles a b p no_change w (no_change_fits a b p w);
  sign = signs a b p signatures w signed;
  unload = unloads a b p signatures w signed;
}
