-- What is read of a plan before its lines are walked, and the lines by their source cells. No public contract cites this.
use Rattle.std.specs.Prelude.{◌≡◌, ◌↔◌, ℕ, ◌<◌, ◌≤◌, ◌^◌, Bool, List, length, map, Contains}
use Rattle.std.specs.List.Sorted.{IsPermutation, IsStrictlyIncreasing}
use Rattle.bb_base.specs.Net.{Netlist, driven, IsNetlist}
use Rattle.bb_terms.specs.Support.{stop_at}
use Rattle.bb_terms.specs.declared.plan.Cell.{Cell}
use Rattle.bb_terms.specs.Plan.{PlanValue}
use Rattle.bb_terms.specs.Lines.{is_stop, column_of}
use Rattle.bb_terms.specs.Rules.{AreLeavesOf}
use Rattle.bb_terms.specs.Valid.{column_at, IsSourceOf}
use Rattle.bb_plan.specs.declared.chain.Link.{Link}
use Rattle.bb_plan.specs.Chain.{links_from, AreSources}

-- the chain, the stops and the numbers of source cells by net
pub record IsLayout (a : Netlist ℕ) (p : PlanValue) (links : List Link) (stops : List Bool) (sources : List ℕ) : Type 0 where
  pub netlist : IsNetlist a
  pub few : length (driven a) < 2 ^ 32
  pub chain : links ≡ links_from 0 p.registers
  pub stops_long : length stops ≡ length (driven a)
  pub stops_are : (net : ℕ) → stop_at stops net ≡ is_stop a p net
  pub sources_long : length sources ≡ length (driven a)
  pub sources_are : AreSources links sources

-- an observer's cell number, and the numbers of its leaves' source cells
pub record LineValue : Type 0 where
  pub cell : ℕ
  pub sources : List ℕ

-- the line of this observer
pub record IsObservedLine (a : Netlist ℕ) (p : PlanValue) (observer : ℕ × Cell) (line : LineValue) : Type 0 where
  pub cell : line.cell ≡ observer.0
  pub few : length line.sources ≤ 16
  pub ascending : IsStrictlyIncreasing line.sources
  pub each : (i : ℕ) → Contains line.sources i ↔ IsSourceOf a p observer.1 i
  pub leaves : List ℕ
  pub are : AreLeavesOf a p observer.1 leaves
  pub columns : IsPermutation (map (column_of p) leaves) (map (column_at p) line.sources)
