-- Labels that go on from bits to their copies.
use Rattle.std.proofs.Common.{◌≡◌, ◌∙◌, ◌⊎◌, inl, inr, ℕ, ◌+◌, ◌<◌, ◌≤◌, zero, suc, List, [], ◌∷◌, ◌++◌, length, cond, Bool, true, false, not, ◌||◌, nat_eq, refl, sym, ap, subst, arith, slice_set, Some, None}
use Rattle.std.proofs.lemmas.Grind.{common_steps}
use Rattle.std.proofs.lemmas.List.Sums.{sum_by-cons, count_by-le-length}
use Rattle.std.proofs.lemmas.List.Folds.{list_any-append}
use Rattle.std.proofs.lemmas.List.Elements.{recursion_from_All}
use Rattle.std.proofs.lemmas.Result.{IfOk-weaker}
use Rattle.std.specs.Prelude.{Option, Result, IfOk, find, All}
use Rattle.std.specs.List.{AllByRecursion}
use Rattle.bb_fault.specs.Work.{Work}
use Rattle.bb_drive.specs.Within.{IsWithin, IsGateWithin}
use Rattle.bb_base.specs.Net.{Gate}
use Rattle.bb_fault.specs.Firsts.{on_some}
use Rattle.bb_drive.specs.Nets.{has_bit}
use Rattle.bb_drive.specs.Clock.{is_buf, first_of, copied_by, copied_net, origin_within}
use Rattle.bb_drive.specs.Origins.{entry_at, is_marked, is_unlabelled, reached, HasLabel, HasNewer, AreCopies, Ways, AreWays, AreLabels, AreSpread, AreOrigins, labelled, newly_labelled}
use Rattle.bb_drive.proofs.OriginLaws.{same_bit, other_bit, same_some, no_some, entry_here, entry_other, entry_within}

pub not_both : (b : Bool) → b ≡ true → b ≡ false → ⊥
not_both b t f = cc

open_none : (o : Option ℕ) → is_unlabelled o ≡ true → o ≡ None
open_none None e = refl
open_none (Some j) e = cc

none_open : (o : Option ℕ) → o ≡ None → is_unlabelled o ≡ true
none_open o e = ap is_unlabelled e

some_open : (o : Option ℕ) (j : ℕ) → o ≡ Some j → is_unlabelled o ≡ false
some_open o j e = ap is_unlabelled e

closed_some : (o : Option ℕ) → is_unlabelled o ≡ false → (j : ℕ) × (o ≡ Some j)
closed_some None e = absurd (not_both true refl e)
closed_some (Some j) e = (j, refl)

-- one label more -----------------------------------------------------------

-- labels stay
pub label_kept : (labels : List (Option ℕ)) (link : Option ℕ) (i b j : ℕ) → entry_at labels b ≡ Some j → entry_at (labelled labels link i) b ≡ Some j
label_kept labels None i b j h = h
label_kept labels (Some c) i b j h = by (is_unlabelled (entry_at labels c)) refl
  where
    by : (t : Bool) → is_unlabelled (entry_at labels c) ≡ t → entry_at (cond t (slice_set labels c (Some i)) labels) b ≡ Some j
    by false e = h
    by true e = entry_other labels c b (Some i) (λ k. no_some j (sym (open_none (entry_at labels c) e) ∙ (sym (ap (entry_at labels) k) ∙ h))) ∙ h

labelled_long : (labels : List (Option ℕ)) (link : Option ℕ) (i : ℕ) → length (labelled labels link i) ≡ length labels
labelled_long labels None i = refl
labelled_long labels (Some c) i = by (is_unlabelled (entry_at labels c))
  where
    by : (t : Bool) → length (cond t (slice_set labels c (Some i)) labels) ≡ length labels
    by false = refl
    by true = grind (arith, common_steps)

-- the bit got its label just now
record IsOpened (labels : List (Option ℕ)) (link : Option ℕ) (i b j : ℕ) : Type 0 where
  linked : link ≡ Some b
  was : entry_at labels b ≡ None
  is : i ≡ j
  waits : has_bit (newly_labelled labels link) b ≡ true

labelled_entry :
    (labels : List (Option ℕ)) (link : Option ℕ) (i b j : ℕ) → ((c : ℕ) → link ≡ Some c → c < length labels) → entry_at (labelled labels link i) b ≡ Some j
    → (entry_at labels b ≡ Some j) ⊎ IsOpened labels link i b j
labelled_entry labels None i b j inside h = inl h
labelled_entry labels (Some c) i b j inside h = by (is_unlabelled (entry_at labels c)) refl h
  where
    by : (t : Bool) → is_unlabelled (entry_at labels c) ≡ t → entry_at (cond t (slice_set labels c (Some i)) labels) b ≡ Some j → (entry_at labels b ≡ Some j) ⊎ IsOpened labels (Some c) i b j
    by false e h = inl h
    by true e h = at (nat_eq b c) refl
      where
        at : (t : Bool) → nat_eq b c ≡ t → (entry_at labels b ≡ Some j) ⊎ IsOpened labels (Some c) i b j
        at false f = inl (sym (entry_other labels c b (Some i) (other_bit b c f)) ∙ h)
        at true f =
            let k = same_bit b c f in
            inr (record {
              linked = ap Some (sym k);
              was = ap (entry_at labels) k ∙ open_none (entry_at labels c) e;
              is = same_some i j (sym (entry_here labels c (Some i) (inside c refl)) ∙ (sym (ap (entry_at (slice_set labels c (Some i))) k) ∙ h));
              waits = ap (λ t. has_bit (cond t (c ∷ []) []) b) e ∙ ap (λ t. t || false) f;
            })

-- how many gates labels have reached -----------------------------------------

count_head : (labels : List (Option ℕ)) (g : Gate ℕ) (gates : List (Gate ℕ)) → reached labels (g ∷ gates) ≡ cond (not (is_unlabelled (entry_at labels g.out))) 1 0 + reached labels gates
count_head labels g gates = sum_by-cons (λ (f : Gate ℕ). cond (not (is_unlabelled (entry_at labels f.out))) 1 0) g gates

here_grows : (old new : Option ℕ) → ((j : ℕ) → old ≡ Some j → new ≡ Some j) → cond (not (is_unlabelled old)) 1 0 ≤ cond (not (is_unlabelled new)) 1 0
here_grows None new h = omega arith
here_grows (Some j) new h = by new (h j refl)
  where
    by : (o : Option ℕ) → o ≡ Some j → 1 ≤ cond (not (is_unlabelled o)) 1 0
    by None e = absurd (no_some j e)
    by (Some k) e = omega arith

reached_grows : (old new : List (Option ℕ)) (gates : List (Gate ℕ)) → ((b j : ℕ) → entry_at old b ≡ Some j → entry_at new b ≡ Some j) → reached old gates ≤ reached new gates
reached_grows old new [] more = omega arith
reached_grows old new (g ∷ gates) more =
    omega (arith, count_head old g gates, count_head new g gates, here_grows (entry_at old g.out) (entry_at new g.out) (more g.out), reached_grows old new gates more)

reached_more :
    (old new : List (Option ℕ)) (gates : List (Gate ℕ)) (b a i : ℕ) → ((b j : ℕ) → entry_at old b ≡ Some j → entry_at new b ≡ Some j)
    → entry_at old b ≡ None → entry_at new b ≡ Some i → copied_net gates b ≡ Some a → reached old gates + 1 ≤ reached new gates
reached_more old new [] b a i more was is h = absurd (no_some a h)
reached_more old new (g ∷ gates) b a i more was is h = by (nat_eq b g.out) refl h (reached_more old new gates b a i more was is)
  where
    by : (t : Bool) → nat_eq b g.out ≡ t → copied_by (cond t (Some g) (find (λ f. nat_eq b f.out) gates)) ≡ Some a
        → (copied_net gates b ≡ Some a → reached old gates + 1 ≤ reached new gates) → reached old (g ∷ gates) + 1 ≤ reached new (g ∷ gates)
    by false e h rest =
        omega (arith, count_head old g gates, count_head new g gates, here_grows (entry_at old g.out) (entry_at new g.out) (more g.out), rest h)
    by true e h rest =
        let k = same_bit b g.out e in
        let none : ◌≡◌ {A = ℕ} (cond (not (is_unlabelled (entry_at old g.out))) 1 0) 0 = ap (λ t. cond (not t) 1 0) (none_open (entry_at old g.out) (sym (ap (entry_at old) k) ∙ was)) in
        let one : ◌≡◌ {A = ℕ} (cond (not (is_unlabelled (entry_at new g.out))) 1 0) 1 = ap (λ t. cond (not t) 1 0) (some_open (entry_at new g.out) i (sym (ap (entry_at new) k) ∙ is)) in
        omega (arith, count_head old g gates, count_head new g gates, none, one, reached_grows old new gates more)

-- the way back -----------------------------------------------------------------

-- it stands where no Buf gate drives
origin_still : (m : ℕ) (gates : List (Gate ℕ)) (i : ℕ) → copied_net gates i ≡ None → origin_within m gates i ≡ i
origin_still zero gates i h = refl
origin_still (suc m) gates i h = ap (λ o. on_some o i (origin_within m gates)) h

-- and more steps change nothing then
pub origin_more : (k m : ℕ) (gates : List (Gate ℕ)) (b i : ℕ) → k ≤ m → copied_net gates i ≡ None → origin_within k gates b ≡ i → origin_within m gates b ≡ i
origin_more zero m gates b i le h at = ap (origin_within m gates) at ∙ origin_still m gates i h
origin_more (suc k) zero gates b i le h at = absurd (omega arith)
origin_more (suc k) (suc m) gates b i le h at = by (copied_net gates b) at (λ a. origin_more k m gates a i (omega arith) h)
  where
    by : (o : Option ℕ) → on_some o b (origin_within k gates) ≡ i → ((a : ℕ) → origin_within k gates a ≡ i → origin_within m gates a ≡ i) → on_some o b (origin_within m gates) ≡ i
    by None at next = at
    by (Some a) at next = next a at

-- a step of the labels -------------------------------------------------------

-- the bit copies one that has this label
pub record IsFed (backs labels : List (Option ℕ)) (i c : ℕ) : Type 0 where
  pub source : ℕ
  pub copies : entry_at backs c ≡ Some source
  pub label : entry_at labels source ≡ Some i

pub label_step :
    (w : Ways) (labels : List (Option ℕ)) (waits later : ℕ → Bool) (link : Option ℕ) (i : ℕ) → AreWays w → AreLabels w labels waits
    → ((c : ℕ) → link ≡ Some c → c < length labels) → ((c : ℕ) → link ≡ Some c → IsFed w.backs labels i c)
    → ((x : ℕ) → later x ≡ false → (waits x ≡ false) × (has_bit (newly_labelled labels link) x ≡ false)) → AreLabels w (labelled labels link i) later
label_step w labels waits later link i are before inside fed done = record {
  long = labelled_long labels link i ∙ before.long;
  rooted = λ b h. label_kept labels link i b b (before.rooted b h);
  sound = λ b j h. sound_at b j (labelled_entry labels link i b j inside h) h;
  parent = λ b a j h back. parent_at b a j back (labelled_entry labels link i b j inside h);
  newest = λ b j h late. newest_at b j late (labelled_entry labels link i b j inside h);
  older = λ b j h late. older_at b j late (labelled_entry labels link i b j inside h);
}
  where
    grown : reached labels w.gates ≤ reached (labelled labels link i) w.gates
    grown = reached_grows labels (labelled labels link i) w.gates (label_kept labels link i)

    free : (j : ℕ) → is_marked w.roots j ≡ true → j < length w.backs → copied_net w.gates j ≡ None
    free j m small = sym (are.backs j small) ∙ are.free j m

    small_root : (j : ℕ) → is_marked w.roots j ≡ true → j < length w.backs
    small_root j m = let s = entry_within labels j j (before.rooted j m) in omega (arith, before.long)

    sound_at : (b j : ℕ) → ((entry_at labels b ≡ Some j) ⊎ IsOpened labels link i b j) → entry_at (labelled labels link i) b ≡ Some j
        → (is_marked w.roots j ≡ true) × (origin_within (reached (labelled labels link i) w.gates) w.gates b ≡ j)
    sound_at b j (inl k) h =
        let s = before.sound b j k in
        (s.0, origin_more (reached labels w.gates) (reached (labelled labels link i) w.gates) w.gates b j grown (free j s.0 (small_root j s.0)) s.1)
    sound_at b j (inr o) h =
        let f = fed b o.linked in
        let s = before.sound f.source i f.label in
        let root = subst (λ r. is_marked w.roots r ≡ true) o.is s.0 in
        let small = entry_within labels f.source i f.label in
        let within : b < length w.backs = entry_within w.backs b f.source f.copies in
        let back = sym (are.backs b within) ∙ f.copies in
        let more = reached_more labels (labelled labels link i) w.gates b f.source j (label_kept labels link i) o.was h back in
        let one : origin_within (suc (reached labels w.gates)) w.gates b ≡ j = ap (λ p. on_some p b (origin_within (reached labels w.gates) w.gates)) back ∙ (s.1 ∙ o.is) in
        (root, origin_more (suc (reached labels w.gates)) (reached (labelled labels link i) w.gates) w.gates b j (omega (arith, more)) (free j root (small_root j root)) one)

    parent_at : (b a j : ℕ) → entry_at w.backs b ≡ Some a → ((entry_at labels b ≡ Some j) ⊎ IsOpened labels link i b j) → entry_at (labelled labels link i) a ≡ Some j
    parent_at b a j back (inl k) = label_kept labels link i a j (before.parent b a j k back)
    parent_at b a j back (inr o) =
        let f = fed b o.linked in
        let same = same_some f.source a (sym f.copies ∙ back) in
        label_kept labels link i a j (sym (ap (entry_at labels) same) ∙ (f.label ∙ ap Some o.is))

    newest_at : (b j : ℕ) → later b ≡ false → ((entry_at labels b ≡ Some j) ⊎ IsOpened labels link i b j) → HasLabel (labelled labels link i) (entry_at w.newest b) j
    newest_at b j late (inl k) = λ c e. label_kept labels link i c j (before.newest b j k (done b late).0 c e)
    newest_at b j late (inr o) = absurd (not_both (has_bit (newly_labelled labels link) b) o.waits (done b late).1)

    older_at : (b j : ℕ) → later b ≡ false → ((entry_at labels b ≡ Some j) ⊎ IsOpened labels link i b j) → HasLabel (labelled labels link i) (entry_at w.older b) j
    older_at b j late (inl k) = λ c e. label_kept labels link i c j (before.older b j k (done b late).0 c e)
    older_at b j late (inr o) = absurd (not_both (has_bit (newly_labelled labels link) b) o.waits (done b late).1)

-- the bit that the label goes on to has it then
pub label_has :
    (w : Ways) (labels : List (Option ℕ)) (waits : ℕ → Bool) (link : Option ℕ) (i : ℕ) → AreLabels w labels waits
    → ((c : ℕ) → link ≡ Some c → c < length labels) → ((c : ℕ) → link ≡ Some c → IsFed w.backs labels i c) → HasLabel (labelled labels link i) link i
label_has w labels waits link i before inside fed c e =
    subst (λ l. entry_at (labelled labels l i) c ≡ Some i) (sym e) (by (is_unlabelled (entry_at labels c)) refl)
  where
    by : (t : Bool) → is_unlabelled (entry_at labels c) ≡ t → entry_at (cond t (slice_set labels c (Some i)) labels) c ≡ Some i
    by true o = entry_here labels c (Some i) (inside c e)
    by false o =
        let s = closed_some (entry_at labels c) o in
        let f = fed c e in
        let up = before.parent c f.source s.0 s.1 f.copies in
        s.1 ∙ (sym up ∙ f.label)

-- both steps from a bit ---------------------------------------------------

wait_behind : (todo first second : List ℕ) (b x : ℕ) → has_bit ((todo ++ first) ++ second) x ≡ false → nat_eq x b ≡ false
    → (has_bit (todo ++ b ∷ []) x ≡ false) × (has_bit first x ≡ false) × (has_bit second x ≡ false)
wait_behind todo first second b x h other =
    let all = list_any-append (nat_eq x) (todo ++ first) second in
    let front = list_any-append (nat_eq x) todo first in
    let last = list_any-append (nat_eq x) todo (b ∷ []) in
    by (has_bit todo x) (has_bit first x) (has_bit second x) (sym (all ∙ ap (λ t. t || has_bit second x) front) ∙ h) last
  where
    by : (p q r : Bool) → ((p || q) || r) ≡ false → has_bit (todo ++ b ∷ []) x ≡ (p || (nat_eq x b || false)) → (has_bit (todo ++ b ∷ []) x ≡ false) × (q ≡ false) × (r ≡ false)
    by true q r e l = absurd (not_both true refl e)
    by false true r e l = absurd (not_both true refl e)
    by false false true e l = absurd (not_both true refl e)
    by false false false e l = (l ∙ ap (λ t. t || false) other, refl, refl)

either_false : (a b : Bool) → (a || b) ≡ false → (a ≡ false) × (b ≡ false)
either_false true b e = absurd (not_both true refl e)
either_false false b e = (refl, e)

newest_inside : (w : Ways) (labels : List (Option ℕ)) (waits : ℕ → Bool) (b : ℕ) → AreWays w → AreLabels w labels waits → (c : ℕ) → entry_at w.newest b ≡ Some c → c < length labels
newest_inside w labels waits b are before c h = let f = are.copies.first b c h in omega (arith, f.0, before.long)

newest_fed : (w : Ways) (labels : List (Option ℕ)) (b i : ℕ) → AreWays w → entry_at labels b ≡ Some i → (c : ℕ) → entry_at w.newest b ≡ Some c → IsFed w.backs labels i c
newest_fed w labels b i are at c h = record { source = b; copies = (are.copies.first b c h).1; label = at }

older_inside : (w : Ways) (labels : List (Option ℕ)) (waits : ℕ → Bool) (b : ℕ) → AreWays w → AreLabels w labels waits → (c : ℕ) → entry_at w.older b ≡ Some c → c < length labels
older_inside w labels waits b are before c h =
    let n = are.copies.next b c h in
    let small = entry_within w.backs c n.source n.older in
    omega (arith, small, before.long)

older_fed :
    (w : Ways) (labels : List (Option ℕ)) (waits : ℕ → Bool) (b i : ℕ) → AreWays w → AreLabels w labels waits → entry_at labels b ≡ Some i
    → (c : ℕ) → entry_at w.older b ≡ Some c → IsFed w.backs labels i c
older_fed w labels waits b i are before at c h =
    let n = are.copies.next b c h in
    record { source = n.source; copies = n.older; label = before.parent b n.source i at n.newer }

pub passed_on :
    (w : Ways) (labels one two : List (Option ℕ)) (todo all : List ℕ) (b i : ℕ) → AreWays w → AreLabels w labels (has_bit (todo ++ b ∷ [])) → entry_at labels b ≡ Some i
    → one ≡ labelled labels (entry_at w.newest b) i → two ≡ labelled one (entry_at w.older b) i
    → all ≡ (todo ++ newly_labelled labels (entry_at w.newest b)) ++ newly_labelled one (entry_at w.older b) → AreLabels w two (has_bit all)
passed_on w labels one two todo all b i are before at one_is two_is all_is = record {
  long = second.long;
  rooted = second.rooted;
  sound = second.sound;
  parent = second.parent;
  newest = λ x j h late. newest_by (nat_eq x b) x refl j h late;
  older = λ x j h late. older_by (nat_eq x b) x refl j h late;
}
  where
    new : Option ℕ
    new = entry_at w.newest b

    old : Option ℕ
    old = entry_at w.older b

    during : ℕ → Bool
    during x = has_bit (todo ++ b ∷ []) x || has_bit (newly_labelled labels new) x

    after : ℕ → Bool
    after x = (has_bit (todo ++ b ∷ []) x || has_bit (newly_labelled labels new) x) || has_bit (newly_labelled one old) x

    first : AreLabels w one during
    first = subst (λ ls. AreLabels w ls during) (sym one_is)
        (label_step w labels (has_bit (todo ++ b ∷ [])) during new i are before (newest_inside w labels (has_bit (todo ++ b ∷ [])) b are before) (newest_fed w labels b i are at)
        (λ x e. either_false (has_bit (todo ++ b ∷ []) x) (has_bit (newly_labelled labels new) x) e))

    one_at : entry_at one b ≡ Some i
    one_at = subst (λ ls. entry_at ls b ≡ Some i) (sym one_is) (label_kept labels new i b i at)

    second : AreLabels w two after
    second = subst (λ ls. AreLabels w ls after) (sym two_is)
        (label_step w one during after old i are first (older_inside w one during b are first) (older_fed w one during b i are first one_at)
        (λ x e. either_false (has_bit (todo ++ b ∷ []) x || has_bit (newly_labelled labels new) x) (has_bit (newly_labelled one old) x) e))

    two_at : entry_at two b ≡ Some i
    two_at = subst (λ ls. entry_at ls b ≡ Some i) (sym two_is) (label_kept one old i b i one_at)

    newest_has : HasLabel two new i
    newest_has c e = subst (λ ls. entry_at ls c ≡ Some i) (sym two_is) (label_kept one old i c i (subst (λ ls. entry_at ls c ≡ Some i) (sym one_is)
        (label_has w labels (has_bit (todo ++ b ∷ [])) new i before (newest_inside w labels (has_bit (todo ++ b ∷ [])) b are before) (newest_fed w labels b i are at) c e)))

    older_has : HasLabel two old i
    older_has c e = subst (λ ls. entry_at ls c ≡ Some i) (sym two_is) (label_has w one during old i first (older_inside w one during b are first) (older_fed w one during b i are first one_at) c e)

    late_after : (x : ℕ) → nat_eq x b ≡ false → has_bit all x ≡ false → after x ≡ false
    late_after x e late =
        let d = wait_behind todo (newly_labelled labels new) (newly_labelled one old) b x (sym (ap (λ bs. has_bit bs x) all_is) ∙ late) e in
        ap (λ t. (t || has_bit (newly_labelled labels new) x) || has_bit (newly_labelled one old) x) d.0 ∙ (ap (λ t. t || has_bit (newly_labelled one old) x) d.1 ∙ d.2)

    newest_by : (t : Bool) (x : ℕ) → nat_eq x b ≡ t → (j : ℕ) → entry_at two x ≡ Some j → has_bit all x ≡ false → HasLabel two (entry_at w.newest x) j
    newest_by false x e j h late = second.newest x j h (late_after x e late)
    newest_by true x e j h late =
        let k = same_bit x b e in
        let same = same_some i j (sym two_at ∙ (sym (ap (entry_at two) k) ∙ h)) in
        subst (λ y. HasLabel two (entry_at w.newest y) j) (sym k) (subst (HasLabel two new) same newest_has)

    older_by : (t : Bool) (x : ℕ) → nat_eq x b ≡ t → (j : ℕ) → entry_at two x ≡ Some j → has_bit all x ≡ false → HasLabel two (entry_at w.older x) j
    older_by false x e j h late = second.older x j h (late_after x e late)
    older_by true x e j h late =
        let k = same_bit x b e in
        let same = same_some i j (sym two_at ∙ (sym (ap (entry_at two) k) ∙ h)) in
        subst (λ y. HasLabel two (entry_at w.older y) j) (sym k) (subst (HasLabel two old) same older_has)

-- a bit without a label has nothing to pass on
pub nothing_passed :
    (w : Ways) (labels : List (Option ℕ)) (todo : List ℕ) (b : ℕ) → entry_at labels b ≡ None → AreLabels w labels (has_bit (todo ++ b ∷ [])) → AreLabels w labels (has_bit todo)
nothing_passed w labels todo b none before = record {
  long = before.long;
  rooted = before.rooted;
  sound = before.sound;
  parent = before.parent;
  newest = λ x j h late. before.newest x j h (late_before x j h late);
  older = λ x j h late. before.older x j h (late_before x j h late);
}
  where
    late_before : (x j : ℕ) → entry_at labels x ≡ Some j → has_bit todo x ≡ false → has_bit (todo ++ b ∷ []) x ≡ false
    late_before x j h late = list_any-append (nat_eq x) todo (b ∷ []) ∙ (ap (λ t. t || (nat_eq x b || false)) late ∙ by (nat_eq x b) refl)
      where
        by : (t : Bool) → nat_eq x b ≡ t → (t || false) ≡ false
        by false e = refl
        by true e = absurd (no_some j (sym none ∙ (sym (ap (entry_at labels) (same_bit x b e)) ∙ h)))

-- before and after all steps --------------------------------------------------

none_marked : (labels : List (Option ℕ)) (b j : ℕ) (t : Bool) → t ≡ false → entry_at labels b ≡ cond t (Some b) None → entry_at labels b ≡ Some j → ⊥
none_marked labels b j t e is h = no_some j (sym (is ∙ ap (λ u. cond u (Some b) None) e) ∙ h)

pub labels_begin :
    (w : Ways) (labels : List (Option ℕ)) (waits : ℕ → Bool) → AreWays w → length labels ≡ length w.roots
    → ((b : ℕ) → entry_at labels b ≡ cond (is_marked w.roots b) (Some b) None) → ((b : ℕ) → waits b ≡ is_marked w.roots b) → AreLabels w labels waits
labels_begin w labels waits are long each wait = record {
  long = long ∙ are.long;
  rooted = λ b m. rooted_at b m;
  sound = λ b j h. sound_by (is_marked w.roots b) b refl j h;
  parent = λ b a j h back. parent_by (is_marked w.roots b) b refl a j h back;
  newest = λ b j h late. absurd (none_marked labels b j (is_marked w.roots b) (sym (wait b) ∙ late) (each b) h);
  older = λ b j h late. absurd (none_marked labels b j (is_marked w.roots b) (sym (wait b) ∙ late) (each b) h);
}
  where
    rooted_at : (b : ℕ) → is_marked w.roots b ≡ true → entry_at labels b ≡ Some b
    rooted_at b m = each b ∙ ap (λ t. cond t (Some b) None) m

    sound_by : (t : Bool) (b : ℕ) → is_marked w.roots b ≡ t → (j : ℕ) → entry_at labels b ≡ Some j → (is_marked w.roots j ≡ true) × (origin_within (reached labels w.gates) w.gates b ≡ j)
    sound_by false b m j h = absurd (none_marked labels b j (is_marked w.roots b) m (each b) h)
    sound_by true b m j h =
        let same = same_some b j (sym (rooted_at b m) ∙ h) in
        let small = entry_within labels b j h in
        let within : b < length w.backs = omega (arith, are.long, long) in
        (subst (λ r. is_marked w.roots r ≡ true) same m, origin_still (reached labels w.gates) w.gates b (sym (are.backs b within) ∙ are.free b m) ∙ same)

    parent_by : (t : Bool) (b : ℕ) → is_marked w.roots b ≡ t → (a j : ℕ) → entry_at labels b ≡ Some j → entry_at w.backs b ≡ Some a → entry_at labels a ≡ Some j
    parent_by false b m a j h back = absurd (none_marked labels b j (is_marked w.roots b) m (each b) h)
    parent_by true b m a j h back = absurd (no_some a (sym (are.free b m) ∙ back))

-- along the older copies from the newest one
label_reaches :
    (w : Ways) (labels : List (Option ℕ)) → AreWays w → AreLabels w labels (has_bit []) → (rest b a i : ℕ) → length w.backs ≤ b + rest
    → entry_at w.backs b ≡ Some a → entry_at labels a ≡ Some i → entry_at labels b ≡ Some i
label_reaches w labels are done zero b a i near back at = let small = entry_within w.backs b a back in absurd (omega arith)
label_reaches w labels are done (suc rest) b a i near back at = by (are.copies.all b a (entry_within w.backs b a back) back) (label_reaches w labels are done rest)
  where
    by : ((entry_at w.newest a ≡ Some b) ⊎ HasNewer w.older (length w.backs) b)
        → ((b a i : ℕ) → length w.backs ≤ b + rest → entry_at w.backs b ≡ Some a → entry_at labels a ≡ Some i → entry_at labels b ≡ Some i) → entry_at labels b ≡ Some i
    by (inl h) from = done.newest a i at refl b h
    by (inr n) from =
        let next = are.copies.next n.copy b n.link in
        let same = same_some next.source a (sym next.older ∙ back) in
        let up = from n.copy a i (omega (arith, n.above)) (next.newer ∙ ap Some same) at in
        done.older n.copy i up refl b n.link

pub labels_end : (w : Ways) (labels : List (Option ℕ)) → AreWays w → AreLabels w labels (has_bit []) → AreSpread w.gates w.backs w.roots labels
labels_end w labels are done = record {
  long = done.long;
  rooted = done.rooted;
  sound = done.sound;
  closed = λ b a i back at. label_reaches w labels are done (length w.backs) b a i (omega arith) back at;
}

-- the labels are the origins ------------------------------------------------------

full_within :
    (gates : List (Gate ℕ)) (backs : List (Option ℕ)) (roots : List Bool) (labels : List (Option ℕ)) → ((b : ℕ) → b < length backs → entry_at backs b ≡ copied_net gates b)
    → ((b a : ℕ) → entry_at backs b ≡ Some a → a < length backs) → AreSpread gates backs roots labels → (steps b : ℕ) → b < length backs
    → is_marked roots (origin_within steps gates b) ≡ true → entry_at labels b ≡ Some (origin_within steps gates b)
full_within gates backs roots labels is inside all zero b small m = all.rooted b m
full_within gates backs roots labels is inside all (suc steps) b small m = by (copied_net gates b) (is b small) m (full_within gates backs roots labels is inside all steps)
  where
    by : (o : Option ℕ) → entry_at backs b ≡ o → is_marked roots (on_some o b (origin_within steps gates)) ≡ true
        → ((a : ℕ) → a < length backs → is_marked roots (origin_within steps gates a) ≡ true → entry_at labels a ≡ Some (origin_within steps gates a))
        → entry_at labels b ≡ Some (on_some o b (origin_within steps gates))
    by None back m from = all.rooted b m
    by (Some a) back m from = all.closed b a (origin_within steps gates a) back (from a (inside b a back) m)

pub origins_done :
    (work : Work) (backs : List (Option ℕ)) (roots : List Bool) (labels : List (Option ℕ)) → length backs ≡ work.fresh → length roots ≡ work.fresh
    → ((b : ℕ) → b < work.fresh → entry_at backs b ≡ copied_net work.gates b) → ((b a : ℕ) → entry_at backs b ≡ Some a → a < length backs)
    → ((b : ℕ) → is_marked roots b ≡ true → copied_net work.gates b ≡ None) → AreSpread work.gates backs roots labels → AreOrigins work roots labels
origins_done work backs roots labels long_backs long_roots is inside free all = record {
  long = all.long ∙ long_backs;
  sound = λ b i h.
      let s = all.sound b i h in
      (s.0, origin_more (reached labels work.gates) (length work.gates) work.gates b i (count_by-le-length (λ (g : Gate ℕ). not (is_unlabelled (entry_at labels g.out))) work.gates) (free i s.0) s.1);
  full = λ b small m.
      full_within work.gates backs roots labels (λ c h. is c (omega arith)) inside all (length work.gates) b (omega arith) m;
}

-- what a gate copies stands
copies_within : (fresh : ℕ) (gates : List (Gate ℕ)) (b a : ℕ) → AllByRecursion (IsGateWithin fresh) gates → copied_net gates b ≡ Some a → a < fresh
copies_within fresh [] b a all h = absurd (no_some a h)
copies_within fresh (g ∷ gates) b a all h = by (nat_eq b g.out) h (copies_within fresh gates b a all.1)
  where
    first_within : (ins : List ℕ) → All (λ n. n < fresh) ins → first_of ins ≡ Some a → a < fresh
    first_within [] all h = absurd (no_some a h)
    first_within (n ∷ ns) all h = let small = (recursion_from_All (λ n. n < fresh) (n ∷ ns) all).0 in let same = same_some n a h in omega arith

    gate_within : (t : Bool) → cond t (first_of g.ins) None ≡ Some a → a < fresh
    gate_within true h = first_within g.ins all.0.ins h
    gate_within false h = absurd (no_some a h)

    by : (t : Bool) → copied_by (cond t (Some g) (find (λ f. nat_eq b f.out) gates)) ≡ Some a → (copied_net gates b ≡ Some a → a < fresh) → a < fresh
    by false h rest = rest h
    by true h rest = gate_within (is_buf g.op) h

pub back_within : (work : Work) (b a : ℕ) → IsWithin work → copied_net work.gates b ≡ Some a → a < work.fresh
back_within work b a within h = copies_within work.fresh work.gates b a (recursion_from_All (IsGateWithin work.fresh) work.gates within.gates) h

-- the tables as they stand
pub spread_out :
    (gates : List (Gate ℕ)) (backs newest older : List (Option ℕ)) (roots : List Bool) → length roots ≡ length backs → ((b : ℕ) → b < length backs → entry_at backs b ≡ copied_net gates b)
    → ((b a : ℕ) → entry_at backs b ≡ Some a → a < length backs) → ((b : ℕ) → is_marked roots b ≡ true → entry_at backs b ≡ None)
    → AreCopies backs (length backs) newest older → AreWays (record { roots = roots; gates = gates; backs = backs; newest = newest; older = older })
spread_out gates backs newest older roots long is inside free copies = record { long = long; backs = is; inside = inside; free = free; copies = copies }

-- what follows from what a call's `Ok` says
pub ok_then : {X Y : Type 0} (r : Result X Y) {P Q : X → Type 0} → IfOk r P → ((x : X) → P x → Q x) → IfOk r Q
ok_then r {P} {Q} h f = IfOk-weaker r P Q f h
