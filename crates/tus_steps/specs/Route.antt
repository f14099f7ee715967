-- What a method does at a path (tus 1.0.0, Core Protocol, Creation and Termination; RFC 9110, section 9.3.1).
use Rattle.std.specs.Prelude.{ℕ, List, Option, Some, None}
use Rattle.tus_text.specs.declared.path.Path.{Path}
use Rattle.tus_text.specs.declared.path.Path.TheVariants as path
use Rattle.tus_steps.specs.declared.method.Method.{Method}
use Rattle.tus_steps.specs.declared.method.Method.TheVariants.{Post, Head, Get, Patch, Delete}

-- the name of the tenant that a path names
abbrev pub tenant_name : Path → Option (List ℕ)
tenant_name (path.Create tenant) = Some tenant
tenant_name (path.Upload tenant id) = Some tenant
tenant_name path.Other = None

-- a creation; or a HEAD, a GET, a PATCH or a DELETE of the upload with an id
pub data Route : Type 0 where
  Create : Route
  Look : ℕ → Route
  Content : ℕ → Route
  Append : ℕ → Route
  Terminate : ℕ → Route

-- POST creates an upload of a tenant; HEAD looks at an upload, GET asks for its bytes, PATCH adds some, and DELETE
-- ends it; no path allows any other method
abbrev pub route : Path → Method → Option Route
route (path.Create tenant) Post = Some Create
route (path.Upload tenant id) Head = Some (Look id)
route (path.Upload tenant id) Get = Some (Content id)
route (path.Upload tenant id) Patch = Some (Append id)
route (path.Upload tenant id) Delete = Some (Terminate id)
route _ _ = None
