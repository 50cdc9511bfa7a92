-- Reading and writing the request of event polling are inverse to each other, in both directions, as one statement.
-- Assumes nothing.
use Rattle.std.specs.Prelude.{◌≡◌, ℕ, List, Ok}
use Rattle.eventrequests.specs.Layout.{event_request_frame}
use Rattle.eventrequests.specs.Reading.{read_event_request}
use Rattle.eventrequests.specs.declared.EventRequest.{EventRequest}

pub record EventRequests : Type 0 where
  -- each request is read back as what went into it, and what is accepted is exactly the frame of what was read
  pub request_back : (request : EventRequest) → read_event_request (event_request_frame request) ≡ Ok request
  pub request_exact : (input : List ℕ) (request : EventRequest) → read_event_request input ≡ Ok request → input ≡ event_request_frame request
