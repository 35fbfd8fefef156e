-- The half adder has room at degree 3: its cuts, its cells with their leaves, and a mask of each length up to 3.
use Rattle.std.proofs.Common.{arith, ◌≡◌, ◌⊎◌, inl, inr, ℕ, zero, suc, ◌<◌, ◌≤◌, List, [], ◌∷◌, length, refl, sym, ap, subst, Contains, nat_eq}
use lib.Count
use Rattle.std.specs.Set.{distinct_count}
use Rattle.bb_base.proofs.Contained.{either, none_in}
use Rattle.bb_base.specs.Net.{Gate}
use Rattle.bb_terms.specs.Paths.{Behind}
use Rattle.bb_terms.specs.Cuts.{AreCuts, IsTooWide}
use Rattle.bb_segment.proofs.SupportLemmas.{one_support}
use Rattle.bb_terms.specs.Register.{IsFullPeriod}
use Rattle.bb_code.specs.Segments.{AreWithin, lists, listing}
use Rattle.bb_terms.specs.declared.kind.Kind.TheVariants.{Input, Output}
use Rattle.bb_rules.specs.Half.{half, half_plan}
use Rattle.bb_terms.specs.Lines.{is_stop}
use Rattle.bb_rules.proofs.HalfLemmas.{xor_gate, and_gate, leaves_of, full as full_2}
use Rattle.bb_rules.proofs.ToggleLemmas.{full as full_1}
use Rattle.bb_reg.specs.Draft.{DraftValue, AreCells, bare_cell}
use Rattle.bb_reg.specs.Chosen.{GroupedValue, grouped_of}
use Rattle.bb_words.specs.declared.command.Settings.{Settings}
use Rattle.bb_choose.specs.Arranged.{AreInRange, IsArranged, segments_of, cell_count}
use Rattle.bb_choose.specs.Choice.{HasFullMask, cycle_count}
use Rattle.bb_choose.specs.Enough.{HasRoom, IsEnough}
use Rattle.bb_choose.proofs.CodeLemmas.{few_pass}

abbrev half_draft : DraftValue
half_draft = record {
  sources = bare_cell Input 0 ∷ bare_cell Input 1 ∷ [];
  observers = bare_cell Output 2 ∷ bare_cell Output 3 ∷ [];
  leaves = (0 ∷ 1 ∷ []) ∷ (0 ∷ 1 ∷ []) ∷ [];
}

abbrev half_grouped : GroupedValue
half_grouped = grouped_of half_draft 8

half_drafted : AreCells half [] half_draft
half_drafted = record {
  reading = [];
  self_reading = tt;
  sources_are = refl;
  observers_are = refl;
  leaves_are = (
    record { start = Behind xor_gate; begins = (xor_gate, (0, omega arith, refl), refl, refl); are = leaves_of xor_gate refl },
    (record { start = Behind and_gate; begins = (and_gate, (1, omega arith, refl), refl, refl); are = leaves_of and_gate refl }, tt),
  );
}

-- no gate reads more than two nets, so nothing is cut
none_wide : (width : ℕ) → 2 ≤ width → (g : Gate ℕ) → Contains half.gates g → IsTooWide half.gates [] width g → ⊥
none_wide width least g h wide = by (either xor_gate (and_gate ∷ []) g h)
  where
    narrow : (f : Gate ℕ) → f.ins ≡ 0 ∷ 1 ∷ [] → f ≡ g → ⊥
    narrow f reads same =
        let ins : g.ins ≡ 0 ∷ 1 ∷ [] = subst (λ (k : Gate ℕ). k.ins ≡ 0 ∷ 1 ∷ []) same reads in
        let leaves = one_support half.gates (is_stop half half_plan) (Behind g) wide.support.leaves (0 ∷ 1 ∷ []) wide.support.are (leaves_of g ins) in
        let long : length wide.support.leaves ≡ 2 = ap length leaves in
        let count = wide.support.count_is in
        let over = wide.wide in
        omega (arith, least, long, count, over)

    by : (xor_gate ≡ g) ⊎ Contains (and_gate ∷ []) g → ⊥
    by (inl same) = narrow xor_gate refl same
    by (inr more) = last (either and_gate [] g more)
      where
        last : (and_gate ≡ g) ⊎ Contains [] g → ⊥
        last (inl same) = narrow and_gate refl same
        last (inr none) = none_in g none

half_cuts : (width : ℕ) → 2 ≤ width → AreCuts half.gates (0 ∷ 1 ∷ []) width []
half_cuts width least = record { turns = []; steps = none_wide width least; same = record { moves = []; below = tt; is = refl }; ascending = λ k less. absurd (omega (arith, less)) }

half_arranged : (settings : Settings) → AreInRange settings → settings.register ≡ 8 → IsArranged half (0 ∷ 1 ∷ []) settings half_grouped
half_arranged settings range eight = record {
  cuts = [];
  cuts_are = half_cuts settings.width range.width_least;
  draft = half_draft;
  cells_are = half_drafted;
  grouped_is = sym (ap (grouped_of half_draft) eight);
}

abbrev half_segments : List (List ℕ)
half_segments = [] ∷ [] ∷ (0 ∷ 1 ∷ []) ∷ (0 ∷ 1 ∷ []) ∷ []

half_within : AreWithin 2 2 half_segments
half_within = record { each_source = each; each_segment = (omega arith, (omega arith, (omega arith, (omega arith, tt)))) }
  where
    each : (source : ℕ) → length (listing half_segments source) ≤ 2
    each source = few_pass (lists source) ((0 ∷ 1 ∷ []) ∷ (0 ∷ 1 ∷ []) ∷ [])

full_3 : IsFullPeriod 3 5
unfolding lib.Count.ones
full_3 zero less = (0, omega arith, refl)
full_3 (suc zero) less = (1, omega arith, refl)
full_3 (suc (suc zero)) less = (6, omega arith, refl)
full_3 (suc (suc (suc zero))) less = (2, omega arith, refl)
full_3 (suc (suc (suc (suc zero)))) less = (7, omega arith, refl)
full_3 (suc (suc (suc (suc (suc zero))))) less = (5, omega arith, refl)
full_3 (suc (suc (suc (suc (suc (suc zero)))))) less = (4, omega arith, refl)
full_3 (suc (suc (suc (suc (suc (suc (suc zero))))))) less = (3, omega arith, refl)
full_3 (suc (suc (suc (suc (suc (suc (suc (suc x)))))))) less = let w : suc (suc (suc (suc (suc (suc (suc (suc x))))))) < 8 = less in absurd (omega (arith, w))

short_masks : (length : ℕ) → 1 ≤ length → length ≤ 3 → HasFullMask length
short_masks zero least most = absurd (omega (arith, least))
short_masks (suc zero) least most = (1, record { mask_fits = record { last = omega arith; below = omega arith }; full = full_1 })
short_masks (suc (suc zero)) least most = (3, record { mask_fits = record { last = omega arith; below = omega arith }; full = full_2 })
short_masks (suc (suc (suc zero))) least most = (5, record { mask_fits = record { last = omega arith; below = omega arith }; full = full_3 })
short_masks (suc (suc (suc (suc n)))) least most = absurd (omega (arith, most))

half_room : (settings : Settings) → AreInRange settings → settings.min_degree ≤ 3 → 3 ≤ settings.max_degree → 17 ≤ settings.max_cycles → HasRoom settings half_grouped
half_room settings range low high long =
    let segments : half_segments ≡ segments_of half_grouped = refl in
    let cells : cell_count half_grouped ≡ 4 = refl in
    let cycles : cycle_count half_grouped 3 ≡ 17 = refl in
    let one = range.degree_least in
    record {
      degree = 3;
      least = low;
      most = high;
      cells = omega (arith, cells);
      listed = 2;
      size = 2;
      within = subst (AreWithin 2 2) segments half_within;
      columns = λ some. omega arith;
      cycles = omega (arith, cycles, long);
      degree_masks = λ lower from upto. short_masks lower (omega (arith, one, from)) upto;
      register_masks = (short_masks 2 (omega arith) (omega arith), (short_masks 2 (omega arith) (omega arith), tt));
    }

pub half_enough : (settings : Settings) → AreInRange settings → settings.min_degree ≤ 3 → 3 ≤ settings.max_degree → 17 ≤ settings.max_cycles → settings.register ≡ 8 → IsEnough half (0 ∷ 1 ∷ []) settings
half_enough settings range low high long eight =
    let least = range.width_least in
    let two : distinct_count nat_eq (0 ∷ 1 ∷ []) ≡ 2 = refl in
    record {
      narrow = (omega (arith, least, two), (omega (arith, least, two), tt));
      room = record { grouped = half_grouped; arranged = half_arranged settings range eight; holds = half_room settings range low high long };
    }
