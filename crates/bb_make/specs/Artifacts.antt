-- What is made of a netlist for its settings: the plan that is chosen, the netlist with that plan's self-test, the signatures and the
-- certificate, and the four texts that say them (this project's own).
use Rattle.std.specs.Prelude.{◌≡◌, ℕ, ◌≤◌, true, List, length, nat_eq, Result, Ok}
use Rattle.std.specs.List.{AllByRecursion, AllZip}
use Rattle.std.specs.Set.{distinct_count}
use Rattle.bb_base.specs.Net.{Netlist}
use Rattle.bb_base.specs.Named.{Named, IsNamed, IsByBits, design_of}
use Rattle.bb_net.specs.Sites.{sited}
use Rattle.bb_fault.specs.declared.fault.ElabFault.{ElabFault}
use Rattle.bb_meaning.specs.Denotes.{ElaboratesTo}
use Rattle.bb_spell.specs.Canonical.{canonical_text}
use Rattle.bb_terms.specs.Plan.{PlanValue, chain, observers}
use Rattle.bb_terms.specs.Valid.{IsValidPlan, SegmentValue, IsSegmentOf}
use Rattle.bb_terms.specs.Signatures.{AreSignatures}
use Rattle.bb_words.specs.declared.command.Settings.{Settings}
use Rattle.bb_choose.specs.Choice.{IsChosenPlan}
use Rattle.bb_written.specs.Written.{written}
use Rattle.bb_selftest.specs.SelfTest.{IsSelfTest}
use Rattle.bb_forms.specs.ScheduleText.{schedule_text, test_cycles}
use Rattle.bb_forms.specs.SignatureText.{signature_text}
use Rattle.bb_forms.specs.CertificateText.{certificate_text}
use Rattle.bb_make.specs.declared.artifacts.Summary.{Summary}
use Rattle.bb_make.specs.Files.{signed_sessions, certificate_of}

-- four texts, and what is counted
pub record ArtifactsValue : Type 0 where
  pub netlist : List ℕ
  pub schedule : List ℕ
  pub signatures : List ℕ
  pub certificate : List ℕ
  pub summary : Summary

-- the original's gates and flip-flops, the plan's cells, registers and sessions, its degree, and the cycles of its test
pub record IsSummary (a : Netlist ℕ) (p : PlanValue) (counted : Summary) : Type 0 where
  pub gates : counted.gates ≡ length a.gates
  pub flops : counted.flops ≡ length a.flops
  pub cells : counted.cells ≡ length (chain p)
  pub registers : counted.registers ≡ length p.registers
  pub sessions : counted.sessions ≡ length p.sessions
  pub degree : counted.degree ≡ p.degree
  pub cycles : counted.cycles ≡ test_cycles p

-- The text elaborates to this netlist, where names of this project's own are allowed, and to nothing else.
pub record DenotesOnly (text : List ℕ) (b : Named) : Type 0 where
  pub elaborates : ElaboratesTo true text (Ok b)
  pub only : (result : Result Named ElabFault) → ElaboratesTo true text result → result ≡ Ok b

-- b is the netlist of a with the plan's self-test, its nets numbered by variables and from left to right
pub record IsWovenFrom (a : Named) (p : PlanValue) (b : Named) : Type 0 where
  pub named : IsNamed b
  pub sites : sited b ≡ written a p
  pub by_bits : IsByBits b

-- these are made of a, in the order of its gates, for the settings
pub record AreArtifacts (a : Named) (order : List ℕ) (settings : Settings) (made : ArtifactsValue) : Type 0 where
  -- no gate has more different inputs than the width
  pub narrow : AllByRecursion (λ g. distinct_count nat_eq g.ins ≤ settings.width) a.netlist.gates
  -- the plan that is chosen, which is valid, and whose test takes no more cycles than it may
  pub plan : PlanValue
  pub chosen : IsChosenPlan a.netlist order settings plan
  pub valid : IsValidPlan a.netlist plan
  pub within : test_cycles plan ≤ settings.max_cycles
  -- the netlist with its self-test, which the first text denotes
  pub written_as : Named
  pub woven : IsWovenFrom a plan written_as
  pub netlist : made.netlist ≡ canonical_text (design_of written_as)
  pub denotes : DenotesOnly made.netlist written_as
  -- the signatures of the plan's sessions, in terms of the original alone
  pub signatures : List (List ℕ)
  pub signed : AreSignatures a.netlist plan signatures
  -- the promise: the netlist that the first text denotes is a self-test of the original, with these signatures
  pub good : IsSelfTest a written_as plan signatures
  pub schedule : made.schedule ≡ schedule_text plan
  pub signature_file : made.signatures ≡ signature_text (signed_sessions plan.sessions signatures)
  -- the segments of the plan's observers, with least duals
  pub segments : List SegmentValue
  pub segments_are : AllZip (IsSegmentOf a.netlist plan) (observers plan) segments
  pub certificate : made.certificate ≡ certificate_text (certificate_of plan segments)
  pub summary : IsSummary a.netlist plan made.summary
