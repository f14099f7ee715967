use Rattle.std.proofs.Common.{◌≡◌, ◌++◌, map, take}
use Rattle.std.specs.List.{flat_map}
use Rattle.service_watch.specs.Metrics.{reply_sample, sample_text}
use Rattle.service_watch.proofs.exposition.put_replies.Given as goal

abbrev pub invariant-loop-reply : goal.invariant-loop-reply
invariant-loop-reply l = l.out.items ≡ l.fn.out.items ++ flat_map (sample_text l.name) (map reply_sample (take l.reply-index l.replies))
