-- What a request asks for, and the status of its response.
use Rattle.std.specs.Prelude.{◌≡◌, ◌≢◌, ◌⊎◌, ℕ, List, codes}
use Rattle.http.specs.Request as Requests
use Rattle.http.specs.declared.request.Request.{Request}
use Rattle.http_uri.specs.Uri.{uri_path}
use Rattle.lb_metrics.specs.declared.asked.Asked.{Asked}
use Rattle.lb_metrics.specs.declared.asked.Asked.TheVariants as asked

-- where the page is
abbrev pub the_path : List ℕ
the_path = codes "/metrics"

-- a method that reads the page
abbrev pub IsRead : List ℕ → Type 0
IsRead method = (method ≡ codes "GET") ⊎ (method ≡ codes "HEAD")

-- what a request with this method and this path asks for
abbrev pub IsAsked : List ℕ → List ℕ → Asked → Type 0
IsAsked method path asked.Page = (path ≡ the_path) × IsRead method
IsAsked method path asked.OtherPath = path ≢ the_path
IsAsked method path asked.OtherMethod = (path ≡ the_path) × (method ≢ codes "GET") × (method ≢ codes "HEAD")

-- the status of a response to what is asked for; 503 may stand for 200 and for 405
abbrev pub HasStatus : Asked → ℕ → Type 0
HasStatus asked.Page status = (status ≡ 200) ⊎ (status ≡ 503)
HasStatus asked.OtherPath status = status ≡ 404
HasStatus asked.OtherMethod status = (status ≡ 405) ⊎ (status ≡ 503)

module _ {X : Type 0} where
  -- the status of the response to a request
  abbrev pub IsAnswered : Request X → ℕ → Type 0
  IsAnswered request status =
      (asked : Asked) × IsAsked (Requests.head_of request).method (uri_path (Requests.head_of request).uri) asked × HasStatus asked status
