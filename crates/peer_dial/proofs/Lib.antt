pub mod PeerSteps
