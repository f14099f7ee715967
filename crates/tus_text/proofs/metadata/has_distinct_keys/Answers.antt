use Rattle.std.proofs.Common.{◌++◌, ap, ◌∙◌, arith}
use Rattle.tus_text.specs.Metadata.{are_distinct}
use Rattle.tus_text.proofs.DistinctLemmas.{texts_of}
use Rattle.tus_text.proofs.MetadataLemmas.{keys_of, first-some, after-pairs, after-shorter, keys-last, keys-more}
use Rattle.tus_text.proofs.metadata.has_distinct_keys.Goals as goal

pub push-requires : goal.push-requires
push-requires c =
    let cut = c.split_at_first in
    let some = first-some c.loop-rest.rest.now cut.result.0.now cut.result.1.now cut.ensures.before cut.ensures.after c.loop-rest.invariant.pairs in
    (omega arith, omega (arith, some, c.loop-rest.invariant.room))

pub returns-then-part-rest : goal.returns-then-part-rest
returns-then-part-rest c =
    let cut = c.split_at_first in
    let last = keys-last c.loop-rest.rest.now cut.result.0.now cut.result.1.now cut.ensures.before cut.ensures.after c.loop-rest.keys.items c.key_in.result c.key_in.ensures c.if-part-rest.true in
    c.are_distinct.ensures ∙ ap (λ keys. are_distinct (texts_of keys)) (c.as_mut_slice.ensures.value ∙ c.push.ensures.items) ∙ ap are_distinct (last ∙ c.loop-rest.invariant.keys)

pub loop-rest-preserved : goal.loop-rest-preserved
loop-rest-preserved c =
    let cut = c.split_at_first in
    let text = c.loop-rest.rest.now in
    let part = cut.result.0.now in
    let after = cut.result.1.now in
    let before_is = cut.ensures.before in
    let after_is = cut.ensures.after in
    let more = c.if-part-rest.false in
    let some = first-some text part after before_is after_is c.loop-rest.invariant.pairs in
    let shorter = after-shorter text part after before_is after_is more in
    record {
      keys = ap (λ keys. texts_of keys ++ keys_of after) c.push.ensures.items ∙ keys-more text part after before_is after_is c.loop-rest.keys.items c.key_in.result c.key_in.ensures more ∙ c.loop-rest.invariant.keys;
      pairs = after-pairs text part after before_is after_is more c.loop-rest.invariant.pairs;
      room = omega (arith, some, shorter, c.push.ensures.len, c.loop-rest.invariant.room);
    }
