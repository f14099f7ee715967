use Rattle.std.proofs.Common.{◌≡◌, ℕ, ◌<◌, List, [], Vec, Global, length, get_or, map, sym, ap, ◌∙◌, arith}
use Rattle.std.proofs.lemmas.List.{get_or-map, length-map}
use Rattle.std.proofs.lemmas.List.Sums.{sum_by_more}
use Rattle.journal_keeper.proofs.keeping.len_of_all.Goals as goal

pub loop-frame-preserved : goal.loop-frame-preserved
loop-frame-preserved c =
    let i = c.loop-frame.frame-index in
    let lists : List (List ℕ) = map {A = Vec ℕ Global} {B = List ℕ} (λ frame. frame.items) c.args.frames.now in
    let listed : i < length lists = omega (arith, length-map {A = Vec ℕ Global} {B = List ℕ} c.args.frames.now (λ frame. frame.items), c.loop-frame-test.true) in
    let item : get_or lists i [] ≡ c.frame-item.result.items =
    get_or-map {X = Vec ℕ Global} {Y = List ℕ} (λ frame. frame.items) c.args.frames.now i c.frame-item.result [] c.loop-frame-test.true ∙ ap (λ (v : Vec ℕ Global). v.items) (sym c.frame-item.is) in
    let sum = sum_by_more (λ (bytes : List ℕ). length bytes) lists i [] listed in
    let len : length (get_or lists i []) ≡ length c.frame-item.result.items = ap (length {A = ℕ}) item in
    omega (arith, sum, len, c.loop-frame.invariant, c.len.ensures, c.saturating_add-total.ensures)
