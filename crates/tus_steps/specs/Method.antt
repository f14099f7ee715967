-- What a method is, and what a cut body does.
use Rattle.std.specs.Prelude.{Bool, true, false, ◌&&◌, ◌||◌}
use Rattle.tus_steps.specs.declared.method.Method.{Method}
use Rattle.tus_steps.specs.declared.method.Method.TheVariants.{Post, Head, Get, Patch, Options}
use Rattle.tus_steps.specs.Field.{FieldText, is_absent}

abbrev pub is_head : Method → Bool
is_head Head = true
is_head _ = false

abbrev pub is_get : Method → Bool
is_get Get = true
is_get _ = false

abbrev pub is_options : Method → Bool
is_options Options = true
is_options _ = false

abbrev pub is_patch : Method → Bool
is_patch Patch = true
is_patch _ = false

abbrev pub is_post : Method → Bool
is_post Post = true
is_post _ = false

-- a request whose body was cut off is applied with the bytes that came, if it is a PATCH (tus 1.0.0, Core
-- Protocol, PATCH: as much of the data as possible is to be stored) without a checksum, which would be that of
-- all its bytes; any other changes nothing, but for what came of it in pieces
abbrev pub is_applied_when_cut : Method → FieldText → Bool
is_applied_when_cut method checksum = is_patch method && is_absent checksum

-- the bytes of a request may be taken piece by piece, if it is a PATCH or a POST without a checksum, which would be that of all
-- its bytes
abbrev pub is_taken_in_pieces : Method → FieldText → Bool
is_taken_in_pieces method checksum = (is_patch method || is_post method) && is_absent checksum
