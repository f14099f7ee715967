use Rattle.std.proofs.Common.{ℕ, List, map, drop, refl, ap, ◌∙◌}
use Rattle.std.specs.Prelude.{codes}
use Rattle.http_header.specs.HeaderMap.{values}
use Rattle.http_wire.specs.inside.HeadFields.{counted}
use Rattle.http_wire.specs.declared.read.fields.Found.{Found}
use Rattle.http_wire.proofs.read.fields.fields_in.Goals as goal

-- what was found under the names that are left after k of them
abbrev left : (List ℕ → Found) → ℕ → List Found
left at k = map at (drop k counted)

pub closes-requires-clause-place : goal.closes-requires-clause-place
closes-requires-clause-place c =
    let s = c.requires.shows in
    let e0 = c.values-found.ensures.value ∙ ap values s.map in
    let e1 = c.next_place-host.ensures (s.at (codes "host")) (left s.at 1) e0 in
    let e2 = c.next_place-expect.ensures (s.at (codes "expect")) (left s.at 2) e1.1 in
    let e3 = c.next_place-length.ensures (s.at (codes "content-length")) (left s.at 3) e2.1 in
    let e4 = c.next_place-coding.ensures (s.at (codes "transfer-encoding")) (left s.at 4) e3.1 in
    let e5 = c.next_place-instead.ensures (s.at (codes "x-http-method-override")) (left s.at 5) e4.1 in
    let e6 = c.next_place-connection.ensures (s.at (codes "connection")) (left s.at 6) e5.1 in
    e6.0 ∙ s.places (codes "connection")

pub returns : goal.returns
returns c =
    let s = c.requires.shows in
    let e0 = c.values-found.ensures.value ∙ ap values s.map in
    let e1 = c.next_place-host.ensures (s.at (codes "host")) (left s.at 1) e0 in
    let e2 = c.next_place-expect.ensures (s.at (codes "expect")) (left s.at 2) e1.1 in
    let e3 = c.next_place-length.ensures (s.at (codes "content-length")) (left s.at 3) e2.1 in
    let e4 = c.next_place-coding.ensures (s.at (codes "transfer-encoding")) (left s.at 4) e3.1 in
    let e5 = c.next_place-instead.ensures (s.at (codes "x-http-method-override")) (left s.at 5) e4.1 in
    let e6 = c.next_place-connection.ensures (s.at (codes "connection")) (left s.at 6) e5.1 in
    let e7 = c.next_place-range.ensures (s.at (codes "range")) (left s.at 7) e6.1 in
    let e8 = c.next_place-condition.ensures (s.at (codes "if-range")) (left s.at 8) e7.1 in
    let e9 = c.next_place-version.ensures (s.at (codes "tus-resumable")) (left s.at 9) e8.1 in
    let e10 = c.next_place-upload_length.ensures (s.at (codes "upload-length")) (left s.at 10) e9.1 in
    let e11 = c.next_place-defer.ensures (s.at (codes "upload-defer-length")) (left s.at 11) e10.1 in
    let e12 = c.next_place-offset.ensures (s.at (codes "upload-offset")) (left s.at 12) e11.1 in
    let e13 = c.next_place-metadata.ensures (s.at (codes "upload-metadata")) (left s.at 13) e12.1 in
    let e14 = c.next_place-concat.ensures (s.at (codes "upload-concat")) (left s.at 14) e13.1 in
    let e15 = c.next_place-checksum.ensures (s.at (codes "upload-checksum")) (left s.at 15) e14.1 in
    let e16 = c.next_place-media.ensures (s.at (codes "content-type")) (left s.at 16) e15.1 in
    rw (e1.0 ∙ s.places (codes "host"), e2.0 ∙ s.places (codes "expect"), e3.0 ∙ s.places (codes "content-length"), e4.0 ∙ s.places (codes "transfer-encoding"), e5.0 ∙ s.places (codes "x-http-method-override"), e7.0 ∙ s.places (codes "range"), e8.0 ∙ s.places (codes "if-range"), e9.0 ∙ s.places (codes "tus-resumable"), e10.0 ∙ s.places (codes "upload-length"), e11.0 ∙ s.places (codes "upload-defer-length"), e12.0 ∙ s.places (codes "upload-offset"), e13.0 ∙ s.places (codes "upload-metadata"), e14.0 ∙ s.places (codes "upload-concat"), e15.0 ∙ s.places (codes "upload-checksum"), e16.0 ∙ s.places (codes "content-type"), c.closes.ensures) refl
