use Rattle.http_wire.specs.ReplyText.{own_fields}
use Rattle.http_wire.proofs.PageLemmas.{joined}
use Rattle.http_wire.proofs.write.own_fields.put_own_fields.Goals as goal

pub returns-clause-text : goal.returns-clause-text
unfolding own_fields
returns-clause-text c =
    let extensions = joined _ _ _ _ _ (joined _ _ _ _ _ c.put_line_if.ensures.text c.put_text_line.ensures.text) c.put_number_line.ensures.text in
    let options = joined _ _ _ _ _ extensions c.put_text_line-2.ensures.text in
    let location = joined _ _ _ _ _ (joined _ _ _ _ _ options c.put_text_line-3.ensures.text) c.put_location.ensures.text in
    let range = joined _ _ _ _ _ (joined _ _ _ _ _ location c.put_line_if-2.ensures.text) c.put_content_range.ensures.text in
    let file = joined _ _ _ _ _ (joined _ _ _ _ _ range c.put_disposition_of.ensures.text) c.put_sniff_line_if.ensures.text in
    let length = joined _ _ _ _ _ (joined _ _ _ _ _ file c.put_number_line-2.ensures.text) c.put_length.ensures.text in
    let texts = joined _ _ _ _ _ (joined _ _ _ _ _ length c.put_text_line-4.ensures.text) c.put_text_line-5.ensures.text in
    let cache = joined _ _ _ _ _ (joined _ _ _ _ _ texts c.put_moment_line.ensures.text) c.put_cache_line_if.ensures.text in
    rw (← c.tells_version.ensures, ← c.extensions_in.ensures.text, ← c.max_size_in.ensures, ← c.algorithms_in.ensures.text, ← c.allowed_in.ensures.text, ← c.tells_ranges-told.ensures, ← c.requires.media, ← c.offset_in.ensures, ← c.metadata_in.ensures.text, ← c.concat_in.ensures.text, ← c.expires_in.ensures, ← c.is_uncached.ensures) cache
