-- Written netlists, statement by statement, as they are documented: the half adder's and those of small cases.
use Rattle.std.specs.Prelude.{◌≡◌, ℕ, List, [], ◌∷◌, map, codes, None, Some}
use Rattle.bb_base.specs.declared.operator.Op.{Op}
use Rattle.bb_base.specs.declared.operator.Op.TheVariants.{And, Nand, Or, Nor, Xor, Not, Buf, Zero, One}
use Rattle.bb_base.specs.declared.variable.Role.TheVariants.{Input, Output, Wire}
use Rattle.bb_base.specs.declared.variable.BitName.{BitName}
use Rattle.bb_base.specs.Net.{Gate, Flop}
use Rattle.bb_base.specs.Named.{Named}
use Rattle.bb_net.specs.Sites.{Site}
use Rattle.bb_terms.specs.declared.kind.Kind.TheVariants.{Input as InputCell, State as StateCell, Split as SplitCell, Cut as CutCell, Watch as WatchCell, Output as OutputCell}
use Rattle.bb_terms.specs.Plan.{PlanValue}
use Rattle.bb_rules.specs.Half.{half}
use Rattle.bb_written.specs.Written.{scalar_entry, scalar_site, written}

-- the bit of a variable without a range
abbrev pub bit_of_scalar : ℕ → BitName
bit_of_scalar variable = record { variable = variable; place = 0 }

-- a statement, by the names of its nets
abbrev pub row_named : Op → List ℕ → List (List ℕ) → Gate Site
row_named op out ins = record { op = op; out = scalar_site out; ins = map scalar_site ins }

abbrev pub dff : List ℕ → List ℕ → Flop Site
dff q d = record { q = scalar_site q; d = scalar_site d }

-- the plan gives these statements, and variables with these names
pub record HasStatements (a : Named) (p : PlanValue) (gates : List (Gate Site)) (flops : List (Flop Site)) (variables : List (List ℕ)) : Type 0 where
  pub gates_are : (written a p).netlist.gates ≡ gates
  pub flops_are : (written a p).netlist.flops ≡ flops
  pub variables_are : map (λ v. v.0) (written a p).variables ≡ variables

-- two inputs, their exclusive or, and their carry
abbrev pub half_named : Named
half_named =
    record {
      module_name = codes "half";
      variables = scalar_entry Input (codes "a") ∷ scalar_entry Input (codes "b") ∷ scalar_entry Output (codes "s") ∷ scalar_entry Output (codes "c") ∷ [];
      clock = None;
      names = bit_of_scalar 0 ∷ bit_of_scalar 1 ∷ bit_of_scalar 2 ∷ bit_of_scalar 3 ∷ [];
      netlist = half;
    }

abbrev pub half_gates : List (Gate Site)
half_gates =
    row_named Xor (codes "s") (codes "bt_r0" ∷ codes "bt_r1" ∷ [])
    ∷ row_named And (codes "c") (codes "bt_r0" ∷ codes "bt_r1" ∷ [])
    ∷ row_named Not (codes "bt_ni") (codes "bt_init" ∷ [])
    ∷ row_named Not (codes "bt_nt") (codes "bt_test" ∷ [])
    ∷ row_named And (codes "bt_go") (codes "bt_test" ∷ codes "bt_ni" ∷ [])
    ∷ row_named Not (codes "bt_ngo") (codes "bt_go" ∷ [])
    ∷ row_named Xor (codes "bt_par") (codes "bt_x0" ∷ codes "bt_x1" ∷ [])
    ∷ row_named Nor (codes "bt_low") (codes "bt_x0" ∷ [])
    ∷ row_named Xor (codes "bt_f") (codes "bt_par" ∷ codes "bt_low" ∷ [])
    ∷ row_named And (codes "bt_xd0") (codes "bt_go" ∷ codes "bt_f" ∷ [])
    ∷ row_named And (codes "bt_xd1") (codes "bt_go" ∷ codes "bt_x0" ∷ [])
    ∷ row_named And (codes "bt_wrap") (codes "bt_x1" ∷ codes "bt_low" ∷ [])
    ∷ row_named Xor (codes "bt_pd") (codes "bt_ph" ∷ codes "bt_wrap" ∷ [])
    ∷ row_named And (codes "bt_phd") (codes "bt_go" ∷ codes "bt_pd" ∷ [])
    ∷ row_named And (codes "bt_step") (codes "bt_ph" ∷ codes "bt_wrap" ∷ [])
    ∷ row_named Not (codes "bt_ns") (codes "bt_step" ∷ [])
    ∷ row_named And (codes "bt_rk0") (codes "bt_ring0" ∷ codes "bt_ns" ∷ [])
    ∷ row_named Or (codes "bt_ringd0") (codes "bt_ngo" ∷ codes "bt_rk0" ∷ [])
    ∷ row_named And (codes "bt_ra1") (codes "bt_ring0" ∷ codes "bt_step" ∷ [])
    ∷ row_named Or (codes "bt_ro1") (codes "bt_ring1" ∷ codes "bt_ra1" ∷ [])
    ∷ row_named And (codes "bt_ringd1") (codes "bt_go" ∷ codes "bt_ro1" ∷ [])
    ∷ row_named Not (codes "bt_nd") (codes "bt_ring1" ∷ [])
    ∷ row_named And (codes "bt_live") (codes "bt_go" ∷ codes "bt_nd" ∷ [])
    ∷ row_named Not (codes "bt_np") (codes "bt_ph" ∷ [])
    ∷ row_named And (codes "bt_run") (codes "bt_live" ∷ codes "bt_np" ∷ [])
    ∷ row_named And (codes "bt_shift") (codes "bt_live" ∷ codes "bt_ph" ∷ [])
    ∷ row_named And (codes "bt_done") (codes "bt_go" ∷ codes "bt_ring1" ∷ [])
    ∷ row_named And (codes "bt_so") (codes "bt_shift" ∷ codes "bt_q3" ∷ [])
    ∷ row_named Buf (codes "bt_b0") (codes "bt_nt" ∷ [])
    ∷ row_named Buf (codes "bt_n0") (codes "bt_shift" ∷ [])
    ∷ row_named Buf (codes "bt_e0") (codes "bt_run" ∷ [])
    ∷ row_named Zero (codes "bt_p0") []
    ∷ row_named Or (codes "bt_on1") (codes "bt_ring0" ∷ [])
    ∷ row_named And (codes "bt_comp1") (codes "bt_run" ∷ codes "bt_on1" ∷ [])
    ∷ row_named Or (codes "bt_b1") (codes "bt_nt" ∷ codes "bt_comp1" ∷ [])
    ∷ row_named Or (codes "bt_n1") (codes "bt_comp1" ∷ codes "bt_shift" ∷ [])
    ∷ row_named Not (codes "bt_off1") (codes "bt_on1" ∷ [])
    ∷ row_named And (codes "bt_e1") (codes "bt_run" ∷ codes "bt_off1" ∷ [])
    ∷ row_named Xor (codes "bt_fb1") (codes "bt_q2" ∷ codes "bt_q3" ∷ [])
    ∷ row_named And (codes "bt_pf1") (codes "bt_comp1" ∷ codes "bt_fb1" ∷ [])
    ∷ row_named And (codes "bt_pc1") (codes "bt_shift" ∷ codes "bt_q1" ∷ [])
    ∷ row_named Or (codes "bt_p1") (codes "bt_pf1" ∷ codes "bt_pc1" ∷ [])
    ∷ row_named And (codes "bt_cn0") (codes "bt_n0" ∷ codes "bt_p0" ∷ [])
    ∷ row_named Xor (codes "bt_g0") (codes "bt_f" ∷ [])
    ∷ row_named And (codes "bt_cg0") (codes "bt_e0" ∷ codes "bt_g0" ∷ [])
    ∷ row_named Xor (codes "bt_d0") (codes "bt_cn0" ∷ codes "bt_cg0" ∷ [])
    ∷ row_named And (codes "bt_rt0") (codes "bt_test" ∷ codes "bt_q0" ∷ [])
    ∷ row_named And (codes "bt_rn0") (codes "bt_nt" ∷ codes "a" ∷ [])
    ∷ row_named Or (codes "bt_r0") (codes "bt_rt0" ∷ codes "bt_rn0" ∷ [])
    ∷ row_named And (codes "bt_cn1") (codes "bt_n0" ∷ codes "bt_q0" ∷ [])
    ∷ row_named Xor (codes "bt_g1") (codes "bt_x0" ∷ [])
    ∷ row_named And (codes "bt_cg1") (codes "bt_e0" ∷ codes "bt_g1" ∷ [])
    ∷ row_named Xor (codes "bt_d1") (codes "bt_cn1" ∷ codes "bt_cg1" ∷ [])
    ∷ row_named And (codes "bt_rt1") (codes "bt_test" ∷ codes "bt_q1" ∷ [])
    ∷ row_named And (codes "bt_rn1") (codes "bt_nt" ∷ codes "b" ∷ [])
    ∷ row_named Or (codes "bt_r1") (codes "bt_rt1" ∷ codes "bt_rn1" ∷ [])
    ∷ row_named And (codes "bt_cz2") (codes "bt_b1" ∷ codes "s" ∷ [])
    ∷ row_named And (codes "bt_cn2") (codes "bt_n1" ∷ codes "bt_p1" ∷ [])
    ∷ row_named Xor (codes "bt_d2") (codes "bt_cz2" ∷ codes "bt_cn2" ∷ [])
    ∷ row_named And (codes "bt_cz3") (codes "bt_b1" ∷ codes "c" ∷ [])
    ∷ row_named And (codes "bt_cn3") (codes "bt_n1" ∷ codes "bt_q2" ∷ [])
    ∷ row_named Xor (codes "bt_d3") (codes "bt_cz3" ∷ codes "bt_cn3" ∷ [])
    ∷ []

abbrev pub half_flops : List (Flop Site)
half_flops =
    dff (codes "bt_x0") (codes "bt_xd0")
    ∷ dff (codes "bt_x1") (codes "bt_xd1")
    ∷ dff (codes "bt_ph") (codes "bt_phd")
    ∷ dff (codes "bt_ring0") (codes "bt_ringd0")
    ∷ dff (codes "bt_ring1") (codes "bt_ringd1")
    ∷ dff (codes "bt_q0") (codes "bt_d0")
    ∷ dff (codes "bt_q1") (codes "bt_d1")
    ∷ dff (codes "bt_q2") (codes "bt_d2")
    ∷ dff (codes "bt_q3") (codes "bt_d3")
    ∷ []

abbrev pub half_variables : List (List ℕ)
half_variables =
    codes "a" ∷ codes "b" ∷ codes "s" ∷ codes "c" ∷ codes "bt_clk" ∷ codes "bt_test" ∷ codes "bt_init" ∷ codes "bt_so" ∷ codes "bt_done" ∷ codes "bt_ni" ∷ codes "bt_nt" ∷ codes "bt_go"
    ∷ codes "bt_ngo" ∷ codes "bt_par" ∷ codes "bt_low" ∷ codes "bt_f" ∷ codes "bt_xd0" ∷ codes "bt_xd1" ∷ codes "bt_wrap" ∷ codes "bt_pd" ∷ codes "bt_phd" ∷ codes "bt_step" ∷ codes "bt_ns" ∷ codes "bt_rk0"
    ∷ codes "bt_ringd0" ∷ codes "bt_ra1" ∷ codes "bt_ro1" ∷ codes "bt_ringd1" ∷ codes "bt_nd" ∷ codes "bt_live" ∷ codes "bt_np" ∷ codes "bt_run" ∷ codes "bt_shift" ∷ codes "bt_b0" ∷ codes "bt_n0" ∷ codes "bt_e0"
    ∷ codes "bt_p0" ∷ codes "bt_on1" ∷ codes "bt_comp1" ∷ codes "bt_b1" ∷ codes "bt_n1" ∷ codes "bt_off1" ∷ codes "bt_e1" ∷ codes "bt_fb1" ∷ codes "bt_pf1" ∷ codes "bt_pc1" ∷ codes "bt_p1" ∷ codes "bt_cn0"
    ∷ codes "bt_g0" ∷ codes "bt_cg0" ∷ codes "bt_d0" ∷ codes "bt_rt0" ∷ codes "bt_rn0" ∷ codes "bt_r0" ∷ codes "bt_cn1" ∷ codes "bt_g1" ∷ codes "bt_cg1" ∷ codes "bt_d1" ∷ codes "bt_rt1" ∷ codes "bt_rn1"
    ∷ codes "bt_r1" ∷ codes "bt_cz2" ∷ codes "bt_cn2" ∷ codes "bt_d2" ∷ codes "bt_cz3" ∷ codes "bt_cn3" ∷ codes "bt_d3" ∷ codes "bt_x0" ∷ codes "bt_x1" ∷ codes "bt_ph" ∷ codes "bt_ring0" ∷ codes "bt_ring1"
    ∷ codes "bt_q0" ∷ codes "bt_q1" ∷ codes "bt_q2" ∷ codes "bt_q3"
    ∷ []

-- a flip-flop that an input turns
abbrev pub toggle_named : Named
toggle_named =
    record {
      module_name = codes "toggle_named";
      variables = scalar_entry Input (codes "clk") ∷ scalar_entry Input (codes "a") ∷ scalar_entry Output (codes "q") ∷ scalar_entry Wire (codes "d") ∷ [];
      clock = Some (bit_of_scalar 0);
      names = bit_of_scalar 1 ∷ bit_of_scalar 2 ∷ bit_of_scalar 3 ∷ [];
      netlist = record {
        inputs = 0 ∷ [];
        outputs = 1 ∷ [];
        gates = record { op = Xor; out = 2; ins = 1 ∷ 0 ∷ [] } ∷ [];
        flops = record { q = 1; d = 2 } ∷ [];
      };
    }

-- the flip-flop generates, and its line is watched
abbrev pub toggle_written : PlanValue
toggle_written =
    record {
      width = 2;
      degree = 2;
      mask = 3;
      registers =
          record { mask = 3; cells = record { kind = InputCell; net = 0; column = 1 } ∷ record { kind = SplitCell; net = 1; column = 2 } ∷ [] }
          ∷ record { mask = 1; cells = record { kind = WatchCell; net = 1; column = 0 } ∷ [] } ∷ [];
      sessions = (1 ∷ []) ∷ [];
    }

abbrev pub toggle_gates : List (Gate Site)
toggle_gates =
    row_named Xor (codes "d") (codes "q" ∷ codes "bt_r0" ∷ [])
    ∷ row_named Not (codes "bt_ni") (codes "bt_init" ∷ [])
    ∷ row_named Not (codes "bt_nt") (codes "bt_test" ∷ [])
    ∷ row_named And (codes "bt_go") (codes "bt_test" ∷ codes "bt_ni" ∷ [])
    ∷ row_named Not (codes "bt_ngo") (codes "bt_go" ∷ [])
    ∷ row_named Xor (codes "bt_par") (codes "bt_x0" ∷ codes "bt_x1" ∷ [])
    ∷ row_named Nor (codes "bt_low") (codes "bt_x0" ∷ [])
    ∷ row_named Xor (codes "bt_f") (codes "bt_par" ∷ codes "bt_low" ∷ [])
    ∷ row_named And (codes "bt_xd0") (codes "bt_go" ∷ codes "bt_f" ∷ [])
    ∷ row_named And (codes "bt_xd1") (codes "bt_go" ∷ codes "bt_x0" ∷ [])
    ∷ row_named And (codes "bt_wrap") (codes "bt_x1" ∷ codes "bt_low" ∷ [])
    ∷ row_named Xor (codes "bt_pd") (codes "bt_ph" ∷ codes "bt_wrap" ∷ [])
    ∷ row_named And (codes "bt_phd") (codes "bt_go" ∷ codes "bt_pd" ∷ [])
    ∷ row_named And (codes "bt_step") (codes "bt_ph" ∷ codes "bt_wrap" ∷ [])
    ∷ row_named Not (codes "bt_ns") (codes "bt_step" ∷ [])
    ∷ row_named And (codes "bt_rk0") (codes "bt_ring0" ∷ codes "bt_ns" ∷ [])
    ∷ row_named Or (codes "bt_ringd0") (codes "bt_ngo" ∷ codes "bt_rk0" ∷ [])
    ∷ row_named And (codes "bt_ra1") (codes "bt_ring0" ∷ codes "bt_step" ∷ [])
    ∷ row_named Or (codes "bt_ro1") (codes "bt_ring1" ∷ codes "bt_ra1" ∷ [])
    ∷ row_named And (codes "bt_ringd1") (codes "bt_go" ∷ codes "bt_ro1" ∷ [])
    ∷ row_named Not (codes "bt_nd") (codes "bt_ring1" ∷ [])
    ∷ row_named And (codes "bt_live") (codes "bt_go" ∷ codes "bt_nd" ∷ [])
    ∷ row_named Not (codes "bt_np") (codes "bt_ph" ∷ [])
    ∷ row_named And (codes "bt_run") (codes "bt_live" ∷ codes "bt_np" ∷ [])
    ∷ row_named And (codes "bt_shift") (codes "bt_live" ∷ codes "bt_ph" ∷ [])
    ∷ row_named And (codes "bt_done") (codes "bt_go" ∷ codes "bt_ring1" ∷ [])
    ∷ row_named And (codes "bt_so") (codes "bt_shift" ∷ codes "bt_q2" ∷ [])
    ∷ row_named Buf (codes "bt_b0") (codes "bt_nt" ∷ [])
    ∷ row_named Buf (codes "bt_n0") (codes "bt_shift" ∷ [])
    ∷ row_named Buf (codes "bt_e0") (codes "bt_run" ∷ [])
    ∷ row_named Zero (codes "bt_p0") []
    ∷ row_named Or (codes "bt_on1") (codes "bt_ring0" ∷ [])
    ∷ row_named And (codes "bt_comp1") (codes "bt_run" ∷ codes "bt_on1" ∷ [])
    ∷ row_named Or (codes "bt_b1") (codes "bt_nt" ∷ codes "bt_comp1" ∷ [])
    ∷ row_named Or (codes "bt_n1") (codes "bt_comp1" ∷ codes "bt_shift" ∷ [])
    ∷ row_named Not (codes "bt_off1") (codes "bt_on1" ∷ [])
    ∷ row_named And (codes "bt_e1") (codes "bt_run" ∷ codes "bt_off1" ∷ [])
    ∷ row_named Xor (codes "bt_fb1") (codes "bt_q2" ∷ [])
    ∷ row_named And (codes "bt_pf1") (codes "bt_comp1" ∷ codes "bt_fb1" ∷ [])
    ∷ row_named And (codes "bt_pc1") (codes "bt_shift" ∷ codes "q" ∷ [])
    ∷ row_named Or (codes "bt_p1") (codes "bt_pf1" ∷ codes "bt_pc1" ∷ [])
    ∷ row_named And (codes "bt_cn0") (codes "bt_n0" ∷ codes "bt_p0" ∷ [])
    ∷ row_named Xor (codes "bt_g0") (codes "bt_f" ∷ [])
    ∷ row_named And (codes "bt_cg0") (codes "bt_e0" ∷ codes "bt_g0" ∷ [])
    ∷ row_named Xor (codes "bt_d0") (codes "bt_cn0" ∷ codes "bt_cg0" ∷ [])
    ∷ row_named And (codes "bt_rt0") (codes "bt_test" ∷ codes "bt_q0" ∷ [])
    ∷ row_named And (codes "bt_rn0") (codes "bt_nt" ∷ codes "a" ∷ [])
    ∷ row_named Or (codes "bt_r0") (codes "bt_rt0" ∷ codes "bt_rn0" ∷ [])
    ∷ row_named And (codes "bt_cz1") (codes "bt_b0" ∷ codes "d" ∷ [])
    ∷ row_named And (codes "bt_cn1") (codes "bt_n0" ∷ codes "bt_q0" ∷ [])
    ∷ row_named Xor (codes "bt_g1") (codes "bt_x0" ∷ [])
    ∷ row_named And (codes "bt_cg1") (codes "bt_e0" ∷ codes "bt_g1" ∷ [])
    ∷ row_named Xor (codes "bt_d1") (codes "bt_cz1" ∷ codes "bt_cn1" ∷ codes "bt_cg1" ∷ [])
    ∷ row_named And (codes "bt_cz2") (codes "bt_b1" ∷ codes "d" ∷ [])
    ∷ row_named And (codes "bt_cn2") (codes "bt_n1" ∷ codes "bt_p1" ∷ [])
    ∷ row_named Xor (codes "bt_d2") (codes "bt_cz2" ∷ codes "bt_cn2" ∷ [])
    ∷ []

abbrev pub toggle_flops : List (Flop Site)
toggle_flops =
    dff (codes "bt_x0") (codes "bt_xd0")
    ∷ dff (codes "bt_x1") (codes "bt_xd1")
    ∷ dff (codes "bt_ph") (codes "bt_phd")
    ∷ dff (codes "bt_ring0") (codes "bt_ringd0")
    ∷ dff (codes "bt_ring1") (codes "bt_ringd1")
    ∷ dff (codes "bt_q0") (codes "bt_d0")
    ∷ dff (codes "q") (codes "bt_d1")
    ∷ dff (codes "bt_q2") (codes "bt_d2")
    ∷ []

abbrev pub toggle_variables : List (List ℕ)
toggle_variables =
    codes "clk" ∷ codes "a" ∷ codes "q" ∷ codes "bt_test" ∷ codes "bt_init" ∷ codes "bt_so" ∷ codes "bt_done" ∷ codes "d" ∷ codes "bt_ni" ∷ codes "bt_nt" ∷ codes "bt_go" ∷ codes "bt_ngo"
    ∷ codes "bt_par" ∷ codes "bt_low" ∷ codes "bt_f" ∷ codes "bt_xd0" ∷ codes "bt_xd1" ∷ codes "bt_wrap" ∷ codes "bt_pd" ∷ codes "bt_phd" ∷ codes "bt_step" ∷ codes "bt_ns" ∷ codes "bt_rk0" ∷ codes "bt_ringd0"
    ∷ codes "bt_ra1" ∷ codes "bt_ro1" ∷ codes "bt_ringd1" ∷ codes "bt_nd" ∷ codes "bt_live" ∷ codes "bt_np" ∷ codes "bt_run" ∷ codes "bt_shift" ∷ codes "bt_b0" ∷ codes "bt_n0" ∷ codes "bt_e0" ∷ codes "bt_p0"
    ∷ codes "bt_on1" ∷ codes "bt_comp1" ∷ codes "bt_b1" ∷ codes "bt_n1" ∷ codes "bt_off1" ∷ codes "bt_e1" ∷ codes "bt_fb1" ∷ codes "bt_pf1" ∷ codes "bt_pc1" ∷ codes "bt_p1" ∷ codes "bt_cn0" ∷ codes "bt_g0"
    ∷ codes "bt_cg0" ∷ codes "bt_d0" ∷ codes "bt_rt0" ∷ codes "bt_rn0" ∷ codes "bt_r0" ∷ codes "bt_cz1" ∷ codes "bt_cn1" ∷ codes "bt_g1" ∷ codes "bt_cg1" ∷ codes "bt_d1" ∷ codes "bt_cz2" ∷ codes "bt_cn2"
    ∷ codes "bt_d2" ∷ codes "bt_x0" ∷ codes "bt_x1" ∷ codes "bt_ph" ∷ codes "bt_ring0" ∷ codes "bt_ring1" ∷ codes "bt_q0" ∷ codes "bt_q2"
    ∷ []

-- no net at all
abbrev pub empty : Named
empty =
    record {
      module_name = codes "empty";
      variables = [];
      clock = None;
      names = [];
      netlist = record {
        inputs = [];
        outputs = [];
        gates = [];
        flops = [];
      };
    }

-- no cell and no session, and a word of one bit
abbrev pub empty_plan : PlanValue
empty_plan =
    record {
      width = 2;
      degree = 1;
      mask = 1;
      registers =
          [];
      sessions = [];
    }

abbrev pub empty_gates : List (Gate Site)
empty_gates =
    row_named Not (codes "bt_ni") (codes "bt_init" ∷ [])
    ∷ row_named Not (codes "bt_nt") (codes "bt_test" ∷ [])
    ∷ row_named And (codes "bt_go") (codes "bt_test" ∷ codes "bt_ni" ∷ [])
    ∷ row_named Not (codes "bt_ngo") (codes "bt_go" ∷ [])
    ∷ row_named Xor (codes "bt_par") (codes "bt_x0" ∷ [])
    ∷ row_named One (codes "bt_low") []
    ∷ row_named Xor (codes "bt_f") (codes "bt_par" ∷ codes "bt_low" ∷ [])
    ∷ row_named And (codes "bt_xd0") (codes "bt_go" ∷ codes "bt_f" ∷ [])
    ∷ row_named And (codes "bt_wrap") (codes "bt_x0" ∷ codes "bt_low" ∷ [])
    ∷ row_named Xor (codes "bt_pd") (codes "bt_ph" ∷ codes "bt_wrap" ∷ [])
    ∷ row_named And (codes "bt_phd") (codes "bt_go" ∷ codes "bt_pd" ∷ [])
    ∷ row_named And (codes "bt_step") (codes "bt_ph" ∷ codes "bt_wrap" ∷ [])
    ∷ row_named Not (codes "bt_ns") (codes "bt_step" ∷ [])
    ∷ row_named One (codes "bt_ringd0") []
    ∷ row_named Not (codes "bt_nd") (codes "bt_ring0" ∷ [])
    ∷ row_named And (codes "bt_live") (codes "bt_go" ∷ codes "bt_nd" ∷ [])
    ∷ row_named Not (codes "bt_np") (codes "bt_ph" ∷ [])
    ∷ row_named And (codes "bt_run") (codes "bt_live" ∷ codes "bt_np" ∷ [])
    ∷ row_named And (codes "bt_shift") (codes "bt_live" ∷ codes "bt_ph" ∷ [])
    ∷ row_named And (codes "bt_done") (codes "bt_go" ∷ codes "bt_ring0" ∷ [])
    ∷ row_named Zero (codes "bt_so") []
    ∷ []

abbrev pub empty_flops : List (Flop Site)
empty_flops =
    dff (codes "bt_x0") (codes "bt_xd0")
    ∷ dff (codes "bt_ph") (codes "bt_phd")
    ∷ dff (codes "bt_ring0") (codes "bt_ringd0")
    ∷ []

abbrev pub empty_variables : List (List ℕ)
empty_variables =
    codes "bt_clk" ∷ codes "bt_test" ∷ codes "bt_init" ∷ codes "bt_so" ∷ codes "bt_done" ∷ codes "bt_ni" ∷ codes "bt_nt" ∷ codes "bt_go" ∷ codes "bt_ngo" ∷ codes "bt_par" ∷ codes "bt_low" ∷ codes "bt_f"
    ∷ codes "bt_xd0" ∷ codes "bt_wrap" ∷ codes "bt_pd" ∷ codes "bt_phd" ∷ codes "bt_step" ∷ codes "bt_ns" ∷ codes "bt_ringd0" ∷ codes "bt_nd" ∷ codes "bt_live" ∷ codes "bt_np" ∷ codes "bt_run" ∷ codes "bt_shift"
    ∷ codes "bt_x0" ∷ codes "bt_ph" ∷ codes "bt_ring0"
    ∷ []

-- an input that nothing reads
abbrev pub idle : Named
idle =
    record {
      module_name = codes "idle";
      variables = scalar_entry Input (codes "a") ∷ [];
      clock = None;
      names = bit_of_scalar 0 ∷ [];
      netlist = record {
        inputs = 0 ∷ [];
        outputs = [];
        gates = [];
        flops = [];
      };
    }

-- its cell has no code, and there is no session
abbrev pub idle_plan : PlanValue
idle_plan =
    record {
      width = 2;
      degree = 1;
      mask = 1;
      registers =
          record { mask = 1; cells = record { kind = InputCell; net = 0; column = 0 } ∷ [] } ∷ [];
      sessions = [];
    }

abbrev pub idle_gates : List (Gate Site)
idle_gates =
    row_named Not (codes "bt_ni") (codes "bt_init" ∷ [])
    ∷ row_named Not (codes "bt_nt") (codes "bt_test" ∷ [])
    ∷ row_named And (codes "bt_go") (codes "bt_test" ∷ codes "bt_ni" ∷ [])
    ∷ row_named Not (codes "bt_ngo") (codes "bt_go" ∷ [])
    ∷ row_named Xor (codes "bt_par") (codes "bt_x0" ∷ [])
    ∷ row_named One (codes "bt_low") []
    ∷ row_named Xor (codes "bt_f") (codes "bt_par" ∷ codes "bt_low" ∷ [])
    ∷ row_named And (codes "bt_xd0") (codes "bt_go" ∷ codes "bt_f" ∷ [])
    ∷ row_named And (codes "bt_wrap") (codes "bt_x0" ∷ codes "bt_low" ∷ [])
    ∷ row_named Xor (codes "bt_pd") (codes "bt_ph" ∷ codes "bt_wrap" ∷ [])
    ∷ row_named And (codes "bt_phd") (codes "bt_go" ∷ codes "bt_pd" ∷ [])
    ∷ row_named And (codes "bt_step") (codes "bt_ph" ∷ codes "bt_wrap" ∷ [])
    ∷ row_named Not (codes "bt_ns") (codes "bt_step" ∷ [])
    ∷ row_named One (codes "bt_ringd0") []
    ∷ row_named Not (codes "bt_nd") (codes "bt_ring0" ∷ [])
    ∷ row_named And (codes "bt_live") (codes "bt_go" ∷ codes "bt_nd" ∷ [])
    ∷ row_named Not (codes "bt_np") (codes "bt_ph" ∷ [])
    ∷ row_named And (codes "bt_run") (codes "bt_live" ∷ codes "bt_np" ∷ [])
    ∷ row_named And (codes "bt_shift") (codes "bt_live" ∷ codes "bt_ph" ∷ [])
    ∷ row_named And (codes "bt_done") (codes "bt_go" ∷ codes "bt_ring0" ∷ [])
    ∷ row_named And (codes "bt_so") (codes "bt_shift" ∷ codes "bt_q0" ∷ [])
    ∷ row_named Buf (codes "bt_b0") (codes "bt_nt" ∷ [])
    ∷ row_named Buf (codes "bt_n0") (codes "bt_shift" ∷ [])
    ∷ row_named Buf (codes "bt_e0") (codes "bt_run" ∷ [])
    ∷ row_named Zero (codes "bt_p0") []
    ∷ row_named And (codes "bt_cn0") (codes "bt_n0" ∷ codes "bt_p0" ∷ [])
    ∷ row_named Zero (codes "bt_g0") []
    ∷ row_named And (codes "bt_cg0") (codes "bt_e0" ∷ codes "bt_g0" ∷ [])
    ∷ row_named Xor (codes "bt_d0") (codes "bt_cn0" ∷ codes "bt_cg0" ∷ [])
    ∷ row_named And (codes "bt_rt0") (codes "bt_test" ∷ codes "bt_q0" ∷ [])
    ∷ row_named And (codes "bt_rn0") (codes "bt_nt" ∷ codes "a" ∷ [])
    ∷ row_named Or (codes "bt_r0") (codes "bt_rt0" ∷ codes "bt_rn0" ∷ [])
    ∷ []

abbrev pub idle_flops : List (Flop Site)
idle_flops =
    dff (codes "bt_x0") (codes "bt_xd0")
    ∷ dff (codes "bt_ph") (codes "bt_phd")
    ∷ dff (codes "bt_ring0") (codes "bt_ringd0")
    ∷ dff (codes "bt_q0") (codes "bt_d0")
    ∷ []

abbrev pub idle_variables : List (List ℕ)
idle_variables =
    codes "a" ∷ codes "bt_clk" ∷ codes "bt_test" ∷ codes "bt_init" ∷ codes "bt_so" ∷ codes "bt_done" ∷ codes "bt_ni" ∷ codes "bt_nt" ∷ codes "bt_go" ∷ codes "bt_ngo" ∷ codes "bt_par" ∷ codes "bt_low"
    ∷ codes "bt_f" ∷ codes "bt_xd0" ∷ codes "bt_wrap" ∷ codes "bt_pd" ∷ codes "bt_phd" ∷ codes "bt_step" ∷ codes "bt_ns" ∷ codes "bt_ringd0" ∷ codes "bt_nd" ∷ codes "bt_live" ∷ codes "bt_np" ∷ codes "bt_run"
    ∷ codes "bt_shift" ∷ codes "bt_b0" ∷ codes "bt_n0" ∷ codes "bt_e0" ∷ codes "bt_p0" ∷ codes "bt_cn0" ∷ codes "bt_g0" ∷ codes "bt_cg0" ∷ codes "bt_d0" ∷ codes "bt_rt0" ∷ codes "bt_rn0" ∷ codes "bt_r0"
    ∷ codes "bt_x0" ∷ codes "bt_ph" ∷ codes "bt_ring0" ∷ codes "bt_q0"
    ∷ []

-- a constant, and no input
abbrev pub steady : Named
steady =
    record {
      module_name = codes "steady";
      variables = scalar_entry Output (codes "one") ∷ [];
      clock = None;
      names = bit_of_scalar 0 ∷ [];
      netlist = record {
        inputs = [];
        outputs = 0 ∷ [];
        gates = record { op = One; out = 0; ins = [] } ∷ [];
        flops = [];
      };
    }

-- its one cell compacts
abbrev pub steady_plan : PlanValue
steady_plan =
    record {
      width = 2;
      degree = 1;
      mask = 1;
      registers =
          record { mask = 1; cells = record { kind = OutputCell; net = 0; column = 0 } ∷ [] } ∷ [];
      sessions = (0 ∷ []) ∷ [];
    }

abbrev pub steady_gates : List (Gate Site)
steady_gates =
    row_named One (codes "one") []
    ∷ row_named Not (codes "bt_ni") (codes "bt_init" ∷ [])
    ∷ row_named Not (codes "bt_nt") (codes "bt_test" ∷ [])
    ∷ row_named And (codes "bt_go") (codes "bt_test" ∷ codes "bt_ni" ∷ [])
    ∷ row_named Not (codes "bt_ngo") (codes "bt_go" ∷ [])
    ∷ row_named Xor (codes "bt_par") (codes "bt_x0" ∷ [])
    ∷ row_named One (codes "bt_low") []
    ∷ row_named Xor (codes "bt_f") (codes "bt_par" ∷ codes "bt_low" ∷ [])
    ∷ row_named And (codes "bt_xd0") (codes "bt_go" ∷ codes "bt_f" ∷ [])
    ∷ row_named And (codes "bt_wrap") (codes "bt_x0" ∷ codes "bt_low" ∷ [])
    ∷ row_named Xor (codes "bt_pd") (codes "bt_ph" ∷ codes "bt_wrap" ∷ [])
    ∷ row_named And (codes "bt_phd") (codes "bt_go" ∷ codes "bt_pd" ∷ [])
    ∷ row_named And (codes "bt_step") (codes "bt_ph" ∷ codes "bt_wrap" ∷ [])
    ∷ row_named Not (codes "bt_ns") (codes "bt_step" ∷ [])
    ∷ row_named And (codes "bt_rk0") (codes "bt_ring0" ∷ codes "bt_ns" ∷ [])
    ∷ row_named Or (codes "bt_ringd0") (codes "bt_ngo" ∷ codes "bt_rk0" ∷ [])
    ∷ row_named And (codes "bt_ra1") (codes "bt_ring0" ∷ codes "bt_step" ∷ [])
    ∷ row_named Or (codes "bt_ro1") (codes "bt_ring1" ∷ codes "bt_ra1" ∷ [])
    ∷ row_named And (codes "bt_ringd1") (codes "bt_go" ∷ codes "bt_ro1" ∷ [])
    ∷ row_named Not (codes "bt_nd") (codes "bt_ring1" ∷ [])
    ∷ row_named And (codes "bt_live") (codes "bt_go" ∷ codes "bt_nd" ∷ [])
    ∷ row_named Not (codes "bt_np") (codes "bt_ph" ∷ [])
    ∷ row_named And (codes "bt_run") (codes "bt_live" ∷ codes "bt_np" ∷ [])
    ∷ row_named And (codes "bt_shift") (codes "bt_live" ∷ codes "bt_ph" ∷ [])
    ∷ row_named And (codes "bt_done") (codes "bt_go" ∷ codes "bt_ring1" ∷ [])
    ∷ row_named And (codes "bt_so") (codes "bt_shift" ∷ codes "bt_q0" ∷ [])
    ∷ row_named Or (codes "bt_on0") (codes "bt_ring0" ∷ [])
    ∷ row_named And (codes "bt_comp0") (codes "bt_run" ∷ codes "bt_on0" ∷ [])
    ∷ row_named Or (codes "bt_b0") (codes "bt_nt" ∷ codes "bt_comp0" ∷ [])
    ∷ row_named Or (codes "bt_n0") (codes "bt_comp0" ∷ codes "bt_shift" ∷ [])
    ∷ row_named Not (codes "bt_off0") (codes "bt_on0" ∷ [])
    ∷ row_named And (codes "bt_e0") (codes "bt_run" ∷ codes "bt_off0" ∷ [])
    ∷ row_named Xor (codes "bt_fb0") (codes "bt_q0" ∷ [])
    ∷ row_named And (codes "bt_pf0") (codes "bt_comp0" ∷ codes "bt_fb0" ∷ [])
    ∷ row_named Zero (codes "bt_pc0") []
    ∷ row_named Or (codes "bt_p0") (codes "bt_pf0" ∷ codes "bt_pc0" ∷ [])
    ∷ row_named And (codes "bt_cz0") (codes "bt_b0" ∷ codes "one" ∷ [])
    ∷ row_named And (codes "bt_cn0") (codes "bt_n0" ∷ codes "bt_p0" ∷ [])
    ∷ row_named Xor (codes "bt_d0") (codes "bt_cz0" ∷ codes "bt_cn0" ∷ [])
    ∷ []

abbrev pub steady_flops : List (Flop Site)
steady_flops =
    dff (codes "bt_x0") (codes "bt_xd0")
    ∷ dff (codes "bt_ph") (codes "bt_phd")
    ∷ dff (codes "bt_ring0") (codes "bt_ringd0")
    ∷ dff (codes "bt_ring1") (codes "bt_ringd1")
    ∷ dff (codes "bt_q0") (codes "bt_d0")
    ∷ []

abbrev pub steady_variables : List (List ℕ)
steady_variables =
    codes "one" ∷ codes "bt_clk" ∷ codes "bt_test" ∷ codes "bt_init" ∷ codes "bt_so" ∷ codes "bt_done" ∷ codes "bt_ni" ∷ codes "bt_nt" ∷ codes "bt_go" ∷ codes "bt_ngo" ∷ codes "bt_par" ∷ codes "bt_low"
    ∷ codes "bt_f" ∷ codes "bt_xd0" ∷ codes "bt_wrap" ∷ codes "bt_pd" ∷ codes "bt_phd" ∷ codes "bt_step" ∷ codes "bt_ns" ∷ codes "bt_rk0" ∷ codes "bt_ringd0" ∷ codes "bt_ra1" ∷ codes "bt_ro1" ∷ codes "bt_ringd1"
    ∷ codes "bt_nd" ∷ codes "bt_live" ∷ codes "bt_np" ∷ codes "bt_run" ∷ codes "bt_shift" ∷ codes "bt_on0" ∷ codes "bt_comp0" ∷ codes "bt_b0" ∷ codes "bt_n0" ∷ codes "bt_off0" ∷ codes "bt_e0" ∷ codes "bt_fb0"
    ∷ codes "bt_pf0" ∷ codes "bt_pc0" ∷ codes "bt_p0" ∷ codes "bt_cz0" ∷ codes "bt_cn0" ∷ codes "bt_d0" ∷ codes "bt_x0" ∷ codes "bt_ph" ∷ codes "bt_ring0" ∷ codes "bt_ring1" ∷ codes "bt_q0"
    ∷ []

-- two flip-flops in a row, a cut between gates, and an output
abbrev pub pair : Named
pair =
    record {
      module_name = codes "pair";
      variables = scalar_entry Input (codes "clk") ∷ scalar_entry Input (codes "a") ∷ scalar_entry Output (codes "y") ∷ scalar_entry Wire (codes "p") ∷ scalar_entry Wire (codes "q") ∷ scalar_entry Wire (codes "t") ∷ [];
      clock = Some (bit_of_scalar 0);
      names = bit_of_scalar 1 ∷ bit_of_scalar 2 ∷ bit_of_scalar 3 ∷ bit_of_scalar 4 ∷ bit_of_scalar 5 ∷ [];
      netlist = record {
        inputs = 0 ∷ [];
        outputs = 1 ∷ [];
        gates = record { op = Not; out = 4; ins = 0 ∷ [] } ∷ record { op = Nand; out = 1; ins = 4 ∷ 3 ∷ 2 ∷ [] } ∷ [];
        flops = record { q = 2; d = 4 } ∷ record { q = 3; d = 2 } ∷ [];
      };
    }

-- two registers that compact in two sessions each, of three
abbrev pub pair_plan : PlanValue
pair_plan =
    record {
      width = 3;
      degree = 3;
      mask = 6;
      registers =
          record { mask = 1; cells = record { kind = InputCell; net = 0; column = 5 } ∷ [] }
          ∷ record { mask = 3; cells = record { kind = StateCell; net = 2; column = 1 } ∷ record { kind = CutCell; net = 4; column = 2 } ∷ [] }
          ∷ record { mask = 3; cells = record { kind = StateCell; net = 3; column = 4 } ∷ record { kind = OutputCell; net = 1; column = 0 } ∷ [] } ∷ [];
      sessions = (1 ∷ []) ∷ (2 ∷ []) ∷ (1 ∷ 2 ∷ []) ∷ [];
    }

abbrev pub pair_gates : List (Gate Site)
pair_gates =
    row_named Not (codes "t") (codes "bt_r0" ∷ [])
    ∷ row_named Nand (codes "y") (codes "bt_r2" ∷ codes "q" ∷ codes "p" ∷ [])
    ∷ row_named Not (codes "bt_ni") (codes "bt_init" ∷ [])
    ∷ row_named Not (codes "bt_nt") (codes "bt_test" ∷ [])
    ∷ row_named And (codes "bt_go") (codes "bt_test" ∷ codes "bt_ni" ∷ [])
    ∷ row_named Not (codes "bt_ngo") (codes "bt_go" ∷ [])
    ∷ row_named Xor (codes "bt_par") (codes "bt_x1" ∷ codes "bt_x2" ∷ [])
    ∷ row_named Nor (codes "bt_low") (codes "bt_x0" ∷ codes "bt_x1" ∷ [])
    ∷ row_named Xor (codes "bt_f") (codes "bt_par" ∷ codes "bt_low" ∷ [])
    ∷ row_named And (codes "bt_xd0") (codes "bt_go" ∷ codes "bt_f" ∷ [])
    ∷ row_named And (codes "bt_xd1") (codes "bt_go" ∷ codes "bt_x0" ∷ [])
    ∷ row_named And (codes "bt_xd2") (codes "bt_go" ∷ codes "bt_x1" ∷ [])
    ∷ row_named And (codes "bt_wrap") (codes "bt_x2" ∷ codes "bt_low" ∷ [])
    ∷ row_named Xor (codes "bt_pd") (codes "bt_ph" ∷ codes "bt_wrap" ∷ [])
    ∷ row_named And (codes "bt_phd") (codes "bt_go" ∷ codes "bt_pd" ∷ [])
    ∷ row_named And (codes "bt_step") (codes "bt_ph" ∷ codes "bt_wrap" ∷ [])
    ∷ row_named Not (codes "bt_ns") (codes "bt_step" ∷ [])
    ∷ row_named And (codes "bt_rk0") (codes "bt_ring0" ∷ codes "bt_ns" ∷ [])
    ∷ row_named Or (codes "bt_ringd0") (codes "bt_ngo" ∷ codes "bt_rk0" ∷ [])
    ∷ row_named And (codes "bt_rk1") (codes "bt_ring1" ∷ codes "bt_ns" ∷ [])
    ∷ row_named And (codes "bt_ra1") (codes "bt_ring0" ∷ codes "bt_step" ∷ [])
    ∷ row_named Or (codes "bt_ro1") (codes "bt_rk1" ∷ codes "bt_ra1" ∷ [])
    ∷ row_named And (codes "bt_ringd1") (codes "bt_go" ∷ codes "bt_ro1" ∷ [])
    ∷ row_named And (codes "bt_rk2") (codes "bt_ring2" ∷ codes "bt_ns" ∷ [])
    ∷ row_named And (codes "bt_ra2") (codes "bt_ring1" ∷ codes "bt_step" ∷ [])
    ∷ row_named Or (codes "bt_ro2") (codes "bt_rk2" ∷ codes "bt_ra2" ∷ [])
    ∷ row_named And (codes "bt_ringd2") (codes "bt_go" ∷ codes "bt_ro2" ∷ [])
    ∷ row_named And (codes "bt_ra3") (codes "bt_ring2" ∷ codes "bt_step" ∷ [])
    ∷ row_named Or (codes "bt_ro3") (codes "bt_ring3" ∷ codes "bt_ra3" ∷ [])
    ∷ row_named And (codes "bt_ringd3") (codes "bt_go" ∷ codes "bt_ro3" ∷ [])
    ∷ row_named Not (codes "bt_nd") (codes "bt_ring3" ∷ [])
    ∷ row_named And (codes "bt_live") (codes "bt_go" ∷ codes "bt_nd" ∷ [])
    ∷ row_named Not (codes "bt_np") (codes "bt_ph" ∷ [])
    ∷ row_named And (codes "bt_run") (codes "bt_live" ∷ codes "bt_np" ∷ [])
    ∷ row_named And (codes "bt_shift") (codes "bt_live" ∷ codes "bt_ph" ∷ [])
    ∷ row_named And (codes "bt_done") (codes "bt_go" ∷ codes "bt_ring3" ∷ [])
    ∷ row_named And (codes "bt_so") (codes "bt_shift" ∷ codes "bt_q4" ∷ [])
    ∷ row_named Buf (codes "bt_b0") (codes "bt_nt" ∷ [])
    ∷ row_named Buf (codes "bt_n0") (codes "bt_shift" ∷ [])
    ∷ row_named Buf (codes "bt_e0") (codes "bt_run" ∷ [])
    ∷ row_named Zero (codes "bt_p0") []
    ∷ row_named Or (codes "bt_on1") (codes "bt_ring0" ∷ codes "bt_ring2" ∷ [])
    ∷ row_named And (codes "bt_comp1") (codes "bt_run" ∷ codes "bt_on1" ∷ [])
    ∷ row_named Or (codes "bt_b1") (codes "bt_nt" ∷ codes "bt_comp1" ∷ [])
    ∷ row_named Or (codes "bt_n1") (codes "bt_comp1" ∷ codes "bt_shift" ∷ [])
    ∷ row_named Not (codes "bt_off1") (codes "bt_on1" ∷ [])
    ∷ row_named And (codes "bt_e1") (codes "bt_run" ∷ codes "bt_off1" ∷ [])
    ∷ row_named Xor (codes "bt_fb1") (codes "p" ∷ codes "bt_q2" ∷ [])
    ∷ row_named And (codes "bt_pf1") (codes "bt_comp1" ∷ codes "bt_fb1" ∷ [])
    ∷ row_named And (codes "bt_pc1") (codes "bt_shift" ∷ codes "bt_q0" ∷ [])
    ∷ row_named Or (codes "bt_p1") (codes "bt_pf1" ∷ codes "bt_pc1" ∷ [])
    ∷ row_named Or (codes "bt_on2") (codes "bt_ring1" ∷ codes "bt_ring2" ∷ [])
    ∷ row_named And (codes "bt_comp2") (codes "bt_run" ∷ codes "bt_on2" ∷ [])
    ∷ row_named Or (codes "bt_b2") (codes "bt_nt" ∷ codes "bt_comp2" ∷ [])
    ∷ row_named Or (codes "bt_n2") (codes "bt_comp2" ∷ codes "bt_shift" ∷ [])
    ∷ row_named Not (codes "bt_off2") (codes "bt_on2" ∷ [])
    ∷ row_named And (codes "bt_e2") (codes "bt_run" ∷ codes "bt_off2" ∷ [])
    ∷ row_named Xor (codes "bt_fb2") (codes "q" ∷ codes "bt_q4" ∷ [])
    ∷ row_named And (codes "bt_pf2") (codes "bt_comp2" ∷ codes "bt_fb2" ∷ [])
    ∷ row_named And (codes "bt_pc2") (codes "bt_shift" ∷ codes "bt_q2" ∷ [])
    ∷ row_named Or (codes "bt_p2") (codes "bt_pf2" ∷ codes "bt_pc2" ∷ [])
    ∷ row_named And (codes "bt_cn0") (codes "bt_n0" ∷ codes "bt_p0" ∷ [])
    ∷ row_named Xor (codes "bt_g0") (codes "bt_f" ∷ codes "bt_x1" ∷ [])
    ∷ row_named And (codes "bt_cg0") (codes "bt_e0" ∷ codes "bt_g0" ∷ [])
    ∷ row_named Xor (codes "bt_d0") (codes "bt_cn0" ∷ codes "bt_cg0" ∷ [])
    ∷ row_named And (codes "bt_rt0") (codes "bt_test" ∷ codes "bt_q0" ∷ [])
    ∷ row_named And (codes "bt_rn0") (codes "bt_nt" ∷ codes "a" ∷ [])
    ∷ row_named Or (codes "bt_r0") (codes "bt_rt0" ∷ codes "bt_rn0" ∷ [])
    ∷ row_named And (codes "bt_cz1") (codes "bt_b1" ∷ codes "bt_r2" ∷ [])
    ∷ row_named And (codes "bt_cn1") (codes "bt_n1" ∷ codes "bt_p1" ∷ [])
    ∷ row_named Xor (codes "bt_g1") (codes "bt_f" ∷ [])
    ∷ row_named And (codes "bt_cg1") (codes "bt_e1" ∷ codes "bt_g1" ∷ [])
    ∷ row_named Xor (codes "bt_d1") (codes "bt_cz1" ∷ codes "bt_cn1" ∷ codes "bt_cg1" ∷ [])
    ∷ row_named And (codes "bt_cz2") (codes "bt_b1" ∷ codes "t" ∷ [])
    ∷ row_named And (codes "bt_cn2") (codes "bt_n1" ∷ codes "p" ∷ [])
    ∷ row_named Xor (codes "bt_g2") (codes "bt_x0" ∷ [])
    ∷ row_named And (codes "bt_cg2") (codes "bt_e1" ∷ codes "bt_g2" ∷ [])
    ∷ row_named Xor (codes "bt_d2") (codes "bt_cz2" ∷ codes "bt_cn2" ∷ codes "bt_cg2" ∷ [])
    ∷ row_named And (codes "bt_rt2") (codes "bt_test" ∷ codes "bt_q2" ∷ [])
    ∷ row_named And (codes "bt_rn2") (codes "bt_nt" ∷ codes "t" ∷ [])
    ∷ row_named Or (codes "bt_r2") (codes "bt_rt2" ∷ codes "bt_rn2" ∷ [])
    ∷ row_named And (codes "bt_cz3") (codes "bt_b2" ∷ codes "p" ∷ [])
    ∷ row_named And (codes "bt_cn3") (codes "bt_n2" ∷ codes "bt_p2" ∷ [])
    ∷ row_named Xor (codes "bt_g3") (codes "bt_x1" ∷ [])
    ∷ row_named And (codes "bt_cg3") (codes "bt_e2" ∷ codes "bt_g3" ∷ [])
    ∷ row_named Xor (codes "bt_d3") (codes "bt_cz3" ∷ codes "bt_cn3" ∷ codes "bt_cg3" ∷ [])
    ∷ row_named And (codes "bt_cz4") (codes "bt_b2" ∷ codes "y" ∷ [])
    ∷ row_named And (codes "bt_cn4") (codes "bt_n2" ∷ codes "q" ∷ [])
    ∷ row_named Xor (codes "bt_d4") (codes "bt_cz4" ∷ codes "bt_cn4" ∷ [])
    ∷ []

abbrev pub pair_flops : List (Flop Site)
pair_flops =
    dff (codes "bt_x0") (codes "bt_xd0")
    ∷ dff (codes "bt_x1") (codes "bt_xd1")
    ∷ dff (codes "bt_x2") (codes "bt_xd2")
    ∷ dff (codes "bt_ph") (codes "bt_phd")
    ∷ dff (codes "bt_ring0") (codes "bt_ringd0")
    ∷ dff (codes "bt_ring1") (codes "bt_ringd1")
    ∷ dff (codes "bt_ring2") (codes "bt_ringd2")
    ∷ dff (codes "bt_ring3") (codes "bt_ringd3")
    ∷ dff (codes "bt_q0") (codes "bt_d0")
    ∷ dff (codes "p") (codes "bt_d1")
    ∷ dff (codes "bt_q2") (codes "bt_d2")
    ∷ dff (codes "q") (codes "bt_d3")
    ∷ dff (codes "bt_q4") (codes "bt_d4")
    ∷ []

abbrev pub pair_variables : List (List ℕ)
pair_variables =
    codes "clk" ∷ codes "a" ∷ codes "y" ∷ codes "bt_test" ∷ codes "bt_init" ∷ codes "bt_so" ∷ codes "bt_done" ∷ codes "p" ∷ codes "q" ∷ codes "t" ∷ codes "bt_ni" ∷ codes "bt_nt"
    ∷ codes "bt_go" ∷ codes "bt_ngo" ∷ codes "bt_par" ∷ codes "bt_low" ∷ codes "bt_f" ∷ codes "bt_xd0" ∷ codes "bt_xd1" ∷ codes "bt_xd2" ∷ codes "bt_wrap" ∷ codes "bt_pd" ∷ codes "bt_phd" ∷ codes "bt_step"
    ∷ codes "bt_ns" ∷ codes "bt_rk0" ∷ codes "bt_ringd0" ∷ codes "bt_rk1" ∷ codes "bt_ra1" ∷ codes "bt_ro1" ∷ codes "bt_ringd1" ∷ codes "bt_rk2" ∷ codes "bt_ra2" ∷ codes "bt_ro2" ∷ codes "bt_ringd2" ∷ codes "bt_ra3"
    ∷ codes "bt_ro3" ∷ codes "bt_ringd3" ∷ codes "bt_nd" ∷ codes "bt_live" ∷ codes "bt_np" ∷ codes "bt_run" ∷ codes "bt_shift" ∷ codes "bt_b0" ∷ codes "bt_n0" ∷ codes "bt_e0" ∷ codes "bt_p0" ∷ codes "bt_on1"
    ∷ codes "bt_comp1" ∷ codes "bt_b1" ∷ codes "bt_n1" ∷ codes "bt_off1" ∷ codes "bt_e1" ∷ codes "bt_fb1" ∷ codes "bt_pf1" ∷ codes "bt_pc1" ∷ codes "bt_p1" ∷ codes "bt_on2" ∷ codes "bt_comp2" ∷ codes "bt_b2"
    ∷ codes "bt_n2" ∷ codes "bt_off2" ∷ codes "bt_e2" ∷ codes "bt_fb2" ∷ codes "bt_pf2" ∷ codes "bt_pc2" ∷ codes "bt_p2" ∷ codes "bt_cn0" ∷ codes "bt_g0" ∷ codes "bt_cg0" ∷ codes "bt_d0" ∷ codes "bt_rt0"
    ∷ codes "bt_rn0" ∷ codes "bt_r0" ∷ codes "bt_cz1" ∷ codes "bt_cn1" ∷ codes "bt_g1" ∷ codes "bt_cg1" ∷ codes "bt_d1" ∷ codes "bt_cz2" ∷ codes "bt_cn2" ∷ codes "bt_g2" ∷ codes "bt_cg2" ∷ codes "bt_d2"
    ∷ codes "bt_rt2" ∷ codes "bt_rn2" ∷ codes "bt_r2" ∷ codes "bt_cz3" ∷ codes "bt_cn3" ∷ codes "bt_g3" ∷ codes "bt_cg3" ∷ codes "bt_d3" ∷ codes "bt_cz4" ∷ codes "bt_cn4" ∷ codes "bt_d4" ∷ codes "bt_x0"
    ∷ codes "bt_x1" ∷ codes "bt_x2" ∷ codes "bt_ph" ∷ codes "bt_ring0" ∷ codes "bt_ring1" ∷ codes "bt_ring2" ∷ codes "bt_ring3" ∷ codes "bt_q0" ∷ codes "bt_q2" ∷ codes "bt_q4"
    ∷ []
