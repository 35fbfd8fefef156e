-- The laws on changed machines, one clause each.
use Rattle.std.proofs.Common.{Bool, List, arith}
use Rattle.bb_base.specs.Named.{Named}
use Rattle.bb_net.specs.Sites.{Site, sited}
use Rattle.bb_terms.specs.Change.{Change, IsChangeOf, gives_by}
use Rattle.bb_terms.specs.Plan.{PlanValue}
use Rattle.bb_terms.specs.Rules.{Conflicts}
use Rattle.bb_selftest.specs.TestRun.{IsTestRunBy}
use Rattle.bb_selftest.specs.TestTrace.{IsWrittenNetlist, IsTracedTest}
use Rattle.bb_selftest.specs.Roles.{KeepsRoles}
use Rattle.bb_selftest.specs.Signed.{HoldsSignatures}
use Rattle.bb_selftest.specs.Unloads.{IsQuietElsewhere, TellsEnd}
use Rattle.bb_selftest.specs.Tested.{LinesFollow, LeavesAreCoded, CellsComeOut}
use Rattle.bb_selftest.proofs.Traces.{traced}
use Rattle.bb_selftest.proofs.Clauses.{line_follows, leaf_is_coded, cell_is_coded, holds_until, cell_comes_out, quiet_elsewhere, end_told}

module _ (a b : Named) (p : PlanValue) (f : Change Site) (w : IsWrittenNetlist a b p) (change : IsChangeOf (sited a).netlist.gates f) where
  trace : (vs : List (Site → Bool)) → IsTestRunBy (gives_by f) b vs → IsTracedTest (gives_by f) a p vs
  trace vs test = traced a b p f vs w change test

  pub roles : KeepsRoles (gives_by f) a b p
  roles = record {
    apart = w.plan.meets Conflicts;
    held = λ vs test s t i r c session low less cell h. cell_is_coded a p w.original.netlist w.plan (gives_by f) vs (trace vs test) s t i r c session low less cell h;
  }

  pub holds : HoldsSignatures (gives_by f) a b p
  holds vs test s t i r g low less is h = holds_until a p w.original.netlist w.plan (gives_by f) vs (trace vs test) s t i r g (omega (arith, low)) less is h

  pub comes_out : CellsComeOut (gives_by f) a b p
  comes_out vs test s j i r c session cell place less = cell_comes_out a p w.original.netlist w.plan (gives_by f) vs (trace vs test) s j i r c session cell place less

  pub quiet : IsQuietElsewhere (gives_by f) b p
  quiet vs test c less = quiet_elsewhere a p w.original.netlist w.plan (gives_by f) vs (trace vs test) c less

  pub tells_end : TellsEnd (gives_by f) b p
  tells_end vs test c less = end_told a p w.original.netlist w.plan (gives_by f) vs (trace vs test) c less

  pub lines : LinesFollow (gives_by f) a b p
  lines vs test c i r cell start less observer begins = line_follows a p w.original.netlist w.plan (gives_by f) vs (trace vs test) c i r cell start less observer begins

  pub codes : LeavesAreCoded (gives_by f) a b p
  codes vs test s t i r net cell low less observer h leaf = leaf_is_coded a p w.original.netlist w.plan (gives_by f) vs (trace vs test) s t r i net cell low less observer.stands h leaf
