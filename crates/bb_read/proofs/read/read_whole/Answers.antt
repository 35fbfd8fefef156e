use Rattle.std.proofs.Common.{arith, ◌≡◌, ◌<◌, ◌≤◌, ◌+◌, ℕ, List, [], ◌++◌, length, take, drop, refl, sym, ap, ◌∙◌, append_assoc}
use Rattle.std.proofs.lemmas.Grind.{common_steps}
use Rattle.bb_edge.specs.Told.{GivesFront}
use Rattle.bb_read.proofs.read.read_whole.Goals as goal

all_read : (n : ℕ) (buf all left text : List ℕ) → n ≡ 0 → text ≡ all ++ left → GivesFront left (take n buf) (drop n left) → all ≡ text
all_read n buf all left text z e p =
    let empty : left ≡ [] = p.at_end.0 (rw z refl) in grind (arith, common_steps)

longer : (n limit : ℕ) (buf all left text : List ℕ) → text ≡ all ++ left → GivesFront left (take n buf) (drop n left) → n ≤ length buf → limit < length all + n → limit < length text
longer n limit buf all left text e p w h = grind (arith, common_steps, p.split)

goes_on : (n : ℕ) (buf all left text new : List ℕ) → text ≡ all ++ left → GivesFront left (take n buf) (drop n left) → new ≡ all ++ take n buf → text ≡ new ++ drop n left
goes_on n buf all left text new e p i = e ∙ ap (λ z. all ++ z) p.split ∙ sym (append_assoc all (take n buf) (drop n left)) ∙ ap (λ z. z ++ drop n left) (sym i)

pub returns-then-count-eq0-clause-bytes : goal.returns-then-count-eq0-clause-bytes
returns-then-count-eq0-clause-bytes g c = λ text h.
    let r = c.pieces.invariant.rest text h in
    let p = c.in-Ok.ensures.bytes r.0 r.1 in
    all_read c.in-Ok.count c.piece.new.buf c.pieces.all.items r.0 text c.if-count-eq0.true r.2 p.0

pub returns-then-len-count-clause-too_long : goal.returns-then-len-count-clause-too_long
returns-then-len-count-clause-too_long g c = λ _ text h.
    let r = c.pieces.invariant.rest text h in
    let p = c.in-Ok.ensures.bytes r.0 r.1 in
    longer c.in-Ok.count c.args.limit c.piece.new.buf c.pieces.all.items r.0 text r.2 p.0 c.in-Ok.ensures.within (omega arith)

pub pieces-preserved : goal.pieces-preserved
pieces-preserved g c = record {
  begun = c.in-Ok.ensures.goes_on;
  rest = λ text h.
      let r = c.pieces.invariant.rest text h in
      let p = c.in-Ok.ensures.bytes r.0 r.1 in
      (drop c.in-Ok.count r.0, p.1, goes_on c.in-Ok.count c.piece.new.buf c.pieces.all.items r.0 text _ r.2 p.0 c.in_ok-extend_from_slice.ensures.items);
  short = grind (arith, common_steps, c.in-Ok.ensures.within, c.in_ok-extend_from_slice.ensures.len);
  later = omega arith;
  contents = cc;
  writing = cc;
  write_faults = cc;
}
