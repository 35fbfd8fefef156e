-- A self-test can be woven into samples, and their texts denote them.
use Rattle.std.proofs.Common.{◌≡◌, ◌∙◌, ℕ, ◌≤◌, Bool, false, All, List, Ok, ap, subst}
use Rattle.std.proofs.lemmas.List.Elements.{recursion_from_All, All-weaker}
use Rattle.bb_base.specs.Variables.{Entry, bit_count}
use Rattle.bb_base.specs.OwnNames.{is_reserved}
use Rattle.bb_base.specs.Order.{HasOrder}
use Rattle.bb_base.specs.Named.{Named, IsNamed, IsByBits, design_of}
use Rattle.bb_meaning.specs.Denotes.{ElaboratesTo}
use Rattle.bb_spell.specs.Canonical.{canonical_text}
use Rattle.bb_print.specs.Elaborated.{IsElaborable, Restores}
use Rattle.bb_ctl.specs.OwnNames.{IsOwnName, HasOwnNames}
use Rattle.bb_read.specs.Ready.{IsReady}
use Rattle.bb_sample.specs.Sample.{sample_of}
use Rattle.bb_compile.specs.Made.{IsReadAlone, sample_text}

-- what is known of samples
pub record SampleLaws : Type 0 where
  pub named : (number : ℕ) → 1 ≤ number → number ≤ 65536 → IsNamed (sample_of number)
  pub by_bits : (number : ℕ) → IsByBits (sample_of number)
  pub order : (number : ℕ) → 1 ≤ number → number ≤ 65536 → HasOrder (sample_of number).netlist.gates
  pub own : (number : ℕ) → All (λ v. is_reserved v.0 ≡ false) (sample_of number).variables
  pub few : (number : ℕ) → number ≤ 65536 → bit_count (sample_of number).variables ≤ 2097152

-- a name that isn't reserved may stand
plain_name : (name : List ℕ) → is_reserved name ≡ false → IsOwnName name
plain_name name plain = λ own. absurd (cc (own, plain))

own_names : (number : ℕ) → All (λ v. is_reserved v.0 ≡ false) (sample_of number).variables → HasOwnNames (sample_of number)
own_names number plain =
    let vars = (sample_of number).variables in
    recursion_from_All (λ (v : Entry). IsOwnName v.0) vars (All-weaker (λ (v : Entry). is_reserved v.0 ≡ false) (λ (v : Entry). IsOwnName v.0) (λ v is. plain_name v.0 is) vars plain)

-- a self-test can be woven into each of them
pub is_ready : SampleLaws → (number : ℕ) → 1 ≤ number → number ≤ 65536 → IsReady (sample_of number)
is_ready laws number some few = record {
  named = laws.named number some few;
  ordered = laws.order number some few;
  own_names = own_names number (laws.own number);
  few = laws.few number few;
}

-- a text that restores a netlist numbered by bits is read as that netlist alone
read_alone : (text : List ℕ) (b : Named) → Restores false text b → IsByBits b → IsReadAlone b text
read_alone text b restores by_bits =
    let same = restores.same by_bits in
    record {
      readable = subst (λ (n : Named). ElaboratesTo false text (Ok n)) same restores.elaborates;
      only = λ result h. restores.only result h ∙ ap Ok same;
    }

pub text_denotes : SampleLaws → ((own : Bool) (a : Named) → IsNamed a → IsElaborable own a → Restores own (canonical_text (design_of a)) a)
    → (number : ℕ) → 1 ≤ number → number ≤ 65536 → IsReadAlone (sample_of number) (sample_text number)
text_denotes laws restores number some few =
    read_alone (sample_text number) (sample_of number)
    (restores false (sample_of number) (laws.named number some few) (record { names = (cc, laws.own number); bits = laws.few number few; order = laws.order number some few }))
    (laws.by_bits number)
