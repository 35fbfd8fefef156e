-- Two named netlists net by net: by sites, with nothing asked of orders or of what no net stands for.
use Rattle.std.specs.Prelude.{◌≡◌, ◌⊎◌, ◌↔◌, ℕ, ◌+◌, ◌<◌, take, length, Contains}
use Rattle.bb_base.specs.Places.{EachAt, IsFirstWrong}
use Rattle.bb_base.specs.Variables.{ports_of}
use Rattle.bb_base.specs.Net.{Gate, Flop, Netlist}
use Rattle.bb_base.specs.Named.{Named}
use Rattle.bb_net.specs.Sites.{Site, site_of, sited}

-- module, ports with their ranges, and clock are those of w
pub record HasFrontOf (w b : Named) : Type 0 where
  pub module_name : b.module_name ≡ w.module_name
  pub ports : take (ports_of b.variables) b.variables ≡ take (ports_of w.variables) w.variables
  pub clock : b.clock ≡ w.clock

-- what a net has its bit from: the outside, a gate with its inputs in order, or a flip-flop
pub data Feeding : Type 0 where
  Outside : Feeding
  Through : (gate : Gate Site) → Feeding
  Held : (flop : Flop Site) → Feeding

abbrev pub Feeds : Netlist Site → Site → Feeding → Type 0
Feeds n site Outside = Contains n.inputs site
Feeds n site (Through gate) = Contains n.gates gate × (gate.out ≡ site)
Feeds n site (Held flop) = Contains n.flops flop × (flop.q ≡ site)

-- the site has the same driver in both, or none in both
abbrev pub IsFedAlike : Named → Named → Site → Type 0
IsFedAlike w b site = (feeding : Feeding) → Feeds (sited b).netlist site feeding ↔ Feeds (sited w).netlist site feeding

-- and so for each net of w
abbrev pub NetsAgree : Named → Named → Type 0
NetsAgree w b = EachAt w.names (λ net name. IsFedAlike w b (site_of w net))

-- a net of b at whose site w has none
abbrev pub IsOneMore : Named → Named → ℕ → Type 0
IsOneMore w b net = (net < length b.names) × ((other : ℕ) → other < length w.names → site_of w other ≡ site_of b net → ⊥)

-- b has the front, the nets and the drivers of w, and no other nets
pub record AgreesWith (w b : Named) : Type 0 where
  pub front : HasFrontOf w b
  pub nets : NetsAgree w b
  pub none_more : (net : ℕ) → net < length b.names → (other : ℕ) × (other < length w.names) × (site_of w other ≡ site_of b net)

-- Where b first differs from w: 0 for module, ports and clock; one more than the first net of w that b drives otherwise, or not at all;
-- one more than all nets of w where b has others.
abbrev pub NetlistsDifferAt : Named → Named → ℕ → Type 0
NetlistsDifferAt w b place =
    ((place ≡ 0) × (HasFrontOf w b → ⊥))
    ⊎ ((HasFrontOf w b × ((net : ℕ) × (place ≡ net + 1) × IsFirstWrong w.names (λ m name. IsFedAlike w b (site_of w m)) net))
    ⊎ ((place ≡ length w.names + 1) × HasFrontOf w b × NetsAgree w b × ((net : ℕ) × IsOneMore w b net)))
