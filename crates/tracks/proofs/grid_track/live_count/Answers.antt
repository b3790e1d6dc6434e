use Rattle.std.proofs.Common.{◌+◌, ◌^◌, ◌<◌, ◌≡◌, false, length, rules, tests, arith}
use Rattle.std.specs.List.{fold, enumerate_from}
use Rattle.std.proofs.lemmas.Iterator.{YieldsList-from_slice}
use Rattle.std.proofs.lemmas.Iterator.Consumers.{YieldsList-at, YieldsList-from_enumerate, fold_from_yields_List}
use Rattle.tracks.specs.Tracks.{live_count}
use Rattle.tracks.proofs.Counts.{counted, live_by_fold, count_bound}
use Rattle.tracks.proofs.grid_track.live_count.Goals as goal

value : (c : goal.After-fold) → c.fold.result ≡ live_count false c.args.tracks.now
value c =
    let ts = c.args.tracks.now in
    let few : length ts < 2 ^ 64 = search rules in
    let folded : c.fold.result ≡ fold counted 0 (enumerate_from 0 ts) =
    fold_from_yields_List _ counted 0 c.fold.result c.fold.ensures.ran (YieldsList-from_enumerate (YieldsList-at c.enumerate.ensures.source (YieldsList-from_slice ts (search rules))) (search rules)) (λ a x b q d. search (rules, tests)) in
    let all : fold counted 0 (enumerate_from 0 ts) ≡ 0 + live_count false ts = live_by_fold 0 0 ts (omega (arith, few)) in
    omega (arith, folded, all)

pub returns-clause-value : goal.returns-clause-value
returns-clause-value c = value c

pub returns-clause-bound : goal.returns-clause-bound
returns-clause-bound c = omega (arith, value c, count_bound c.args.tracks.now)
