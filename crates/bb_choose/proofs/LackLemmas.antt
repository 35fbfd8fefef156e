-- What is lacking for the segments that were coded is lacking for the registers.
use Rattle.std.proofs.Common.{◌≡◌, ℕ, List, sym, ap, subst, ◌∙◌, slice_get, Some}
use Rattle.bb_words.specs.declared.command.Settings.{Settings}
use Rattle.bb_code.specs.Degree.{IsCodeDegree, IsNeed}
use Rattle.bb_code.specs.declared.fault.Need.TheVariants.{Cells, Source}
use Rattle.bb_reg.specs.Chosen.{GroupedValue}
use Rattle.bb_choose.specs.Arranged.{source_nets, segments_of, source_count, cell_count}
use Rattle.bb_choose.specs.Choice.{LacksDegree}

carried : (P : List (List ℕ) → ℕ → ℕ → Type 0) (s t : List (List ℕ)) (m n c d : ℕ) → s ≡ t → m ≡ n → c ≡ d → P s m c → P t n d
carried P s t m n c d e f g h = subst (P t n) g (subst (λ k. P t k c) f (subst (λ k. P k m c) e h))

pub lacks_source :
    (settings : Settings) (grouped : GroupedValue) (segments : List (List ℕ)) (nets : List ℕ) (sources cells source net max : ℕ) → segments ≡ segments_of grouped → nets ≡ source_nets grouped.registers → sources ≡ source_count grouped
    → cells ≡ cell_count grouped → slice_get nets source ≡ Some net → max ≡ settings.max_degree → IsNeed segments sources cells settings.max_degree (Source source)
    → ((degree : ℕ) → IsCodeDegree segments sources cells settings.min_degree settings.max_degree degree → ⊥) → LacksDegree settings grouped max (Source net)
lacks_source settings grouped segments nets sources cells source net max e f g h at highest need none = record {
  highest = highest;
  none = carried (λ s m c. (degree : ℕ) → IsCodeDegree s m c settings.min_degree settings.max_degree degree → ⊥) segments (segments_of grouped) sources (source_count grouped) cells (cell_count grouped) e g h none;
  lacks = (source, sym (ap (λ ns. slice_get ns source) f) ∙ at, subst (λ k. IsNeed (segments_of grouped) (source_count grouped) (cell_count grouped) k (Source source)) (sym highest) (carried (λ s m c. IsNeed s m c settings.max_degree (Source source)) segments (segments_of grouped) sources (source_count grouped) cells (cell_count grouped) e g h need));
}

pub lacks_cells :
    (settings : Settings) (grouped : GroupedValue) (segments : List (List ℕ)) (sources cells count max : ℕ) → segments ≡ segments_of grouped → sources ≡ source_count grouped → cells ≡ cell_count grouped → max ≡ settings.max_degree
    → IsNeed segments sources cells settings.max_degree (Cells count) → ((degree : ℕ) → IsCodeDegree segments sources cells settings.min_degree settings.max_degree degree → ⊥) → LacksDegree settings grouped max (Cells count)
lacks_cells settings grouped segments sources cells count max e g h highest need none = record {
  highest = highest;
  none = carried (λ s m c. (degree : ℕ) → IsCodeDegree s m c settings.min_degree settings.max_degree degree → ⊥) segments (segments_of grouped) sources (source_count grouped) cells (cell_count grouped) e g h none;
  lacks = subst (λ k. IsNeed (segments_of grouped) (source_count grouped) (cell_count grouped) k (Cells count)) (sym highest) (carried (λ s m c. IsNeed s m c settings.max_degree (Cells count)) segments (segments_of grouped) sources (source_count grouped) cells (cell_count grouped) e g h need);
}
