use Rattle.std.proofs.Common.{◌≡◌, ℕ, suc, ◌-◌, ◌<◌, length, map, sym, ap, ◌∙◌, arith}
use Rattle.std.proofs.lemmas.List.{length-map, map-set}
use Rattle.ieee.specs.Order.{total_less}
use Rattle.quantile.proofs.Inserting.{at_map, slide_none, slide_start, slide_more, slide_stop, slide_end}
use Rattle.quantile.proofs.insert.Goals as goal

one_more : (n : ℕ) → 0 < n → suc (n - 1) ≡ n
one_more n h = omega arith

pub returns-then-not-total_less : goal.returns-then-not-total_less
returns-then-not-total_less g c =
    let f = g.F.Real.float in
    let old = c.args.least.now in
    slide_none g.row.N (map f old) (f c.args.v) c.requires.rises (length-map old f ∙ c.told-least) (g.row.N - 1) (one_more g.row.N c.requires.some)
    (ap (total_less (f c.args.v)) (at_map f old (g.row.N - 1) c.index-least.result (omega arith)) ∙ sym c.total_less.ensures ∙ c.if-not-total_less.true)

pub loop-j-init : goal.loop-j-init
loop-j-init g c =
    let f = g.F.Real.float in
    let old = c.args.least.now in
    slide_start g.row.N (map f old) (f c.args.v) c.requires.rises (length-map old f ∙ c.told-least) (g.row.N - 1) (one_more g.row.N c.requires.some)
    (ap (total_less (f c.args.v)) (at_map f old (g.row.N - 1) c.index-least.result (omega arith)) ∙ sym c.total_less.ensures ∙ c.if-not-total_less.false)

pub returns-then-not-total_less-2 : goal.returns-then-not-total_less-2
returns-then-not-total_less-2 g c =
    let f = g.F.Real.float in
    let old = c.args.least.now in
    let new = c.loop-j.least in
    let i = c.loop-j.invariant in
    let j = c.loop-j.j - 1 in
    let long : length new ≡ g.row.N = sym (length-map new f) ∙ i.long in
    let there = at_map f new (j - 1) c.index-least-j.result (omega (arith, i.low)) in
    map-set f new j c.args.v
    ∙ slide_stop g.row.N (map f old) (f c.args.v) c.requires.rises (length-map old f ∙ c.told-least) i (omega arith) (sym there)
    (sym c.total_less-in-loop-j.ensures ∙ c.if-not-total_less-2.true)

pub loop-j-preserved : goal.loop-j-preserved
loop-j-preserved g c =
    let f = g.F.Real.float in
    let old = c.args.least.now in
    let new = c.loop-j.least in
    let i = c.loop-j.invariant in
    let j = c.loop-j.j - 1 in
    let long : length new ≡ g.row.N = sym (length-map new f) ∙ i.long in
    let there = at_map f new (j - 1) c.index-least-j.result (omega (arith, i.low)) in
    rw map-set
    (slide_more g.row.N (map f old) (f c.args.v) c.requires.rises (length-map old f ∙ c.told-least) i (omega arith) (sym there)
    (sym c.total_less-in-loop-j.ensures ∙ c.if-not-total_less-2.false))

pub returns : goal.returns
returns g c =
    let f = g.F.Real.float in
    let old = c.args.least.now in
    map-set f c.loop-j.least 0 c.args.v
    ∙ slide_end g.row.N (map f old) (f c.args.v) c.requires.rises (length-map old f ∙ c.told-least) c.loop-j.invariant (omega arith)
